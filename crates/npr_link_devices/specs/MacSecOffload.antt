-- What part of a device does MACsec, by the table: `MACSEC_OFFLOAD_*` of `linux/if_link.h`.
use Rattle.std.specs.Prelude.{ℕ, List, [], ◌∷◌}
use Rattle.std.proofs.Common.{refl}
use Rattle.npr_base.specs.Layout.{Layout, byte, formed}
use Rattle.npr_base.specs.Numbering.{Numbering}
use Rattle.npr_base.specs.Enumeration.{enumeration}
use Rattle.npr_link_devices.specs.declared.mac_sec_offload.MacSecOffload.{MacSecOffload}
use Rattle.npr_link_devices.specs.declared.mac_sec_offload.MacSecOffload.TheVariants.{Off, Phy, Mac, Other}
use Rattle.npr_link_devices.specs.contracts.mac_sec_offload.MacSecOffload.{enum}

-- in the order of the variants
abbrev pub mac_sec_offload_rows : List (ℕ × MacSecOffload)
mac_sec_offload_rows =
    (0, Off) ∷ (1, Phy) ∷ (2, Mac) ∷ []

-- the value that a number reads as, and the number that one is written as
abbrev pub mac_sec_offloads : Numbering ℕ MacSecOffload
mac_sec_offloads = enumeration enum mac_sec_offload_rows Other (λ f. f.0) (λ d. refl) refl

-- how one is read and written
abbrev pub mac_sec_offload : Layout MacSecOffload
mac_sec_offload = formed byte mac_sec_offloads
