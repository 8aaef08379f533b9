-- When the primary port becomes the active one again, by the table: `BOND_PRI_RESELECT_*` of the kernel's `net/bonding.h`.
use Rattle.std.specs.Prelude.{ℕ, List, [], ◌∷◌, codes, decimal, ◌++◌}
use Rattle.std.proofs.Common.{refl}
use Rattle.npr_base.specs.Layout.{Layout, byte, formed}
use Rattle.npr_base.specs.Numbering.{Numbering}
use Rattle.npr_base.specs.Rows.{Named, numbered, text_in}
use Rattle.npr_base.specs.Enumeration.{enumeration}
use Rattle.npr_link_devices.specs.declared.primary_reselect.BondPrimaryReselect.{BondPrimaryReselect}
use Rattle.npr_link_devices.specs.declared.primary_reselect.BondPrimaryReselect.TheVariants.{Always, Better, Failure, Other}
use Rattle.npr_link_devices.specs.contracts.primary_reselect.BondPrimaryReselect.{enum}

-- in the order of the variants
abbrev pub primary_reselect_rows : List (Named BondPrimaryReselect)
primary_reselect_rows =
    (0, Always, codes "always") ∷ (1, Better, codes "better") ∷ (2, Failure, codes "failure") ∷ []

-- the value that a number reads as, and the number that one is written as
abbrev pub primary_reselects : Numbering ℕ BondPrimaryReselect
primary_reselects = enumeration enum (numbered primary_reselect_rows) Other (λ f. f.0) (λ d. refl) refl

-- how one is read and written
abbrev pub primary_reselect : Layout BondPrimaryReselect
primary_reselect = formed byte primary_reselects

-- the text of one: its name, and of any other its number
abbrev pub primary_reselect_text : BondPrimaryReselect → List ℕ
primary_reselect_text x = text_in enum primary_reselect_rows (λ f. codes "unknown-variant (" ++ decimal f.0 ++ codes ")") x
