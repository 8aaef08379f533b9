-- On which ports answers of ARP are looked at, by the table: `BOND_ARP_VALIDATE_*` and `BOND_ARP_FILTER*` of the kernel's `net/bonding.h`.
use Rattle.std.specs.Prelude.{ℕ, List, [], ◌∷◌, codes, decimal, ◌++◌}
use Rattle.std.proofs.Common.{refl}
use Rattle.npr_base.specs.Layout.{Layout, le32, formed}
use Rattle.npr_base.specs.Numbering.{Numbering}
use Rattle.npr_base.specs.Rows.{Named, numbered, text_in}
use Rattle.npr_base.specs.Enumeration.{enumeration}
use Rattle.npr_link_devices.specs.declared.arp_validate.BondArpValidate.{BondArpValidate}
use Rattle.npr_link_devices.specs.declared.arp_validate.BondArpValidate.TheVariants.{None, Active, Backup, All, Filter, FilterActive, FilterBackup, Other}
use Rattle.npr_link_devices.specs.contracts.arp_validate.BondArpValidate.{enum}

-- in the order of the variants
abbrev pub arp_validation_rows : List (Named BondArpValidate)
arp_validation_rows =
    (0, None, codes "none") ∷ (1, Active, codes "active") ∷ (2, Backup, codes "backup") ∷ (3, All, codes "all") ∷ (4, Filter, codes "filter") ∷
    (5, FilterActive, codes "filter_active") ∷ (6, FilterBackup, codes "filter_backup") ∷ []

-- the value that a number reads as, and the number that one is written as
abbrev pub arp_validations : Numbering ℕ BondArpValidate
arp_validations = enumeration enum (numbered arp_validation_rows) Other (λ f. f.0) (λ d. refl) refl

-- how one is read and written
abbrev pub arp_validation : Layout BondArpValidate
arp_validation = formed le32 arp_validations

-- the text of one: its name, and of any other its number
abbrev pub arp_validation_text : BondArpValidate → List ℕ
arp_validation_text x = text_in enum arp_validation_rows (λ f. codes "unknown-variant (" ++ decimal f.0 ++ codes ")") x
