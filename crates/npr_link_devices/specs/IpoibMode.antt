-- How IP goes over InfiniBand, by the table: `IPOIB_MODE_*` of `linux/if_link.h`.
use Rattle.std.specs.Prelude.{ℕ, List, [], ◌∷◌}
use Rattle.std.proofs.Common.{refl}
use Rattle.npr_base.specs.Layout.{Layout, le16, formed}
use Rattle.npr_base.specs.Numbering.{Numbering}
use Rattle.npr_base.specs.Enumeration.{enumeration}
use Rattle.npr_link_devices.specs.declared.ipoib_mode.IpoibMode.{IpoibMode}
use Rattle.npr_link_devices.specs.declared.ipoib_mode.IpoibMode.TheVariants.{Datagram, Connected, Other}
use Rattle.npr_link_devices.specs.contracts.ipoib_mode.IpoibMode.{enum}

-- in the order of the variants
abbrev pub ipoib_mode_rows : List (ℕ × IpoibMode)
ipoib_mode_rows =
    (0, Datagram) ∷ (1, Connected) ∷ []

-- the value that a number reads as, and the number that one is written as
abbrev pub ipoib_modes : Numbering ℕ IpoibMode
ipoib_modes = enumeration enum ipoib_mode_rows Other (λ f. f.0) (λ d. refl) refl

-- how one is read and written
abbrev pub ipoib_mode : Layout IpoibMode
ipoib_mode = formed le16 ipoib_modes
