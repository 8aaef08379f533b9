-- How the link of a port of a bond is, by the table: `BOND_LINK_*` of `linux/if_bonding.h`.
use Rattle.std.specs.Prelude.{ℕ, List, [], ◌∷◌}
use Rattle.std.proofs.Common.{refl}
use Rattle.npr_base.specs.Layout.{Layout, byte, formed}
use Rattle.npr_base.specs.Numbering.{Numbering}
use Rattle.npr_base.specs.Enumeration.{enumeration}
use Rattle.npr_link_devices.specs.declared.mii_status.MiiStatus.{MiiStatus}
use Rattle.npr_link_devices.specs.declared.mii_status.MiiStatus.TheVariants.{Up, GoingDown, Down, GoingBack, Other}
use Rattle.npr_link_devices.specs.contracts.mii_status.MiiStatus.{enum}

-- in the order of the variants
abbrev pub mii_status_rows : List (ℕ × MiiStatus)
mii_status_rows =
    (0, Up) ∷ (1, GoingDown) ∷ (2, Down) ∷ (3, GoingBack) ∷ []

-- the value that a number reads as, and the number that one is written as
abbrev pub mii_statuses : Numbering ℕ MiiStatus
mii_statuses = enumeration enum mii_status_rows Other (λ f. f.0) (λ d. refl) refl

-- how one is read and written
abbrev pub mii_status : Layout MiiStatus
mii_status = formed byte mii_statuses
