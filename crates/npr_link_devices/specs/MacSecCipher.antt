-- A cipher suite of MACsec, by the table: `MACSEC_CIPHER_ID_*` of `linux/if_macsec.h`.
use Rattle.std.specs.Prelude.{ℕ, List, [], ◌∷◌}
use Rattle.std.proofs.Common.{refl}
use Rattle.npr_base.specs.Layout.{Layout, le64, formed}
use Rattle.npr_base.specs.Numbering.{Numbering}
use Rattle.npr_base.specs.Enumeration.{enumeration}
use Rattle.npr_link_devices.specs.declared.mac_sec_cipher.MacSecCipherId.{MacSecCipherId}
use Rattle.npr_link_devices.specs.declared.mac_sec_cipher.MacSecCipherId.TheVariants.{DefaultGcmAes128, GcmAes128, GcmAes256, GcmAesXpn128, GcmAesXpn256, Other}
use Rattle.npr_link_devices.specs.contracts.mac_sec_cipher.MacSecCipherId.{enum}

-- in the order of the variants
abbrev pub mac_sec_cipher_rows : List (ℕ × MacSecCipherId)
mac_sec_cipher_rows =
    (36030996058996737, DefaultGcmAes128) ∷ (36242102291529729, GcmAes128) ∷ (36242102291529730, GcmAes256)
    ∷ (36242102291529731, GcmAesXpn128) ∷ (36242102291529732, GcmAesXpn256) ∷ []

-- the value that a number reads as, and the number that one is written as
abbrev pub mac_sec_ciphers : Numbering ℕ MacSecCipherId
mac_sec_ciphers = enumeration enum mac_sec_cipher_rows Other (λ f. f.0) (λ d. refl) refl

-- how one is read and written
abbrev pub mac_sec_cipher : Layout MacSecCipherId
mac_sec_cipher = formed le64 mac_sec_ciphers
