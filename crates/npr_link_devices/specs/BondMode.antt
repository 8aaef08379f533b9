-- By what rule a bond sends, by the table: `BOND_MODE_*` of `linux/if_bonding.h`.
use Rattle.std.specs.Prelude.{ℕ, List, [], ◌∷◌, codes, decimal, ◌++◌}
use Rattle.std.proofs.Common.{refl}
use Rattle.npr_base.specs.Layout.{Layout, byte, formed}
use Rattle.npr_base.specs.Numbering.{Numbering}
use Rattle.npr_base.specs.Rows.{Named, numbered, text_in}
use Rattle.npr_base.specs.Enumeration.{enumeration}
use Rattle.npr_link_devices.specs.declared.bond_mode.BondMode.{BondMode}
use Rattle.npr_link_devices.specs.declared.bond_mode.BondMode.TheVariants.{BalanceRr, ActiveBackup, BalanceXor, Broadcast, Ieee8023Ad, BalanceTlb}
use Rattle.npr_link_devices.specs.declared.bond_mode.BondMode.TheVariants.{BalanceAlb, Other}
use Rattle.npr_link_devices.specs.contracts.bond_mode.BondMode.{enum}

-- in the order of the variants
abbrev pub bond_mode_rows : List (Named BondMode)
bond_mode_rows =
    (0, BalanceRr, codes "balance-rr") ∷ (1, ActiveBackup, codes "active-backup") ∷ (2, BalanceXor, codes "balance-xor") ∷
    (3, Broadcast, codes "broadcast") ∷ (4, Ieee8023Ad, codes "802.3ad") ∷ (5, BalanceTlb, codes "balance-tlb") ∷
    (6, BalanceAlb, codes "balance-alb") ∷ []

-- the value that a number reads as, and the number that one is written as
abbrev pub bond_modes : Numbering ℕ BondMode
bond_modes = enumeration enum (numbered bond_mode_rows) Other (λ f. f.0) (λ d. refl) refl

-- how one is read and written
abbrev pub bond_mode : Layout BondMode
bond_mode = formed byte bond_modes

-- the text of one: its name, and of any other its number
abbrev pub bond_mode_text : BondMode → List ℕ
bond_mode_text x = text_in enum bond_mode_rows (λ f. codes "unknown-variant (" ++ decimal f.0 ++ codes ")") x
