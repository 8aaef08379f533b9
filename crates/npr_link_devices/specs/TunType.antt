-- What a TUN device carries, by the table: `IFF_TUN` and `IFF_TAP` of `linux/if_tun.h`.
use Rattle.std.specs.Prelude.{ℕ, List, [], ◌∷◌}
use Rattle.std.proofs.Common.{refl}
use Rattle.npr_base.specs.Layout.{Layout, byte, formed}
use Rattle.npr_base.specs.Numbering.{Numbering}
use Rattle.npr_base.specs.Enumeration.{enumeration}
use Rattle.npr_link_devices.specs.declared.tun_type.TunType.{TunType}
use Rattle.npr_link_devices.specs.declared.tun_type.TunType.TheVariants.{Tun, Tap, Other}
use Rattle.npr_link_devices.specs.contracts.tun_type.TunType.{enum}

-- in the order of the variants
abbrev pub tun_type_rows : List (ℕ × TunType)
tun_type_rows =
    (1, Tun) ∷ (2, Tap) ∷ []

-- the value that a number reads as, and the number that one is written as
abbrev pub tun_types : Numbering ℕ TunType
tun_types = enumeration enum tun_type_rows Other (λ f. f.0) (λ d. refl) refl

-- how one is read and written
abbrev pub tun_type : Layout TunType
tun_type = formed byte tun_types
