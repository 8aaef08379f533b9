-- How many targets of ARP have to answer, by the table: `BOND_ARP_TARGETS_*` of the kernel's `net/bonding.h`.
use Rattle.std.specs.Prelude.{ℕ, List, [], ◌∷◌, codes, decimal, ◌++◌}
use Rattle.std.proofs.Common.{refl}
use Rattle.npr_base.specs.Layout.{Layout, le32, formed}
use Rattle.npr_base.specs.Numbering.{Numbering}
use Rattle.npr_base.specs.Rows.{Named, numbered, text_in}
use Rattle.npr_base.specs.Enumeration.{enumeration}
use Rattle.npr_link_devices.specs.declared.arp_all_targets.BondArpAllTargets.{BondArpAllTargets}
use Rattle.npr_link_devices.specs.declared.arp_all_targets.BondArpAllTargets.TheVariants.{Any, All, Other}
use Rattle.npr_link_devices.specs.contracts.arp_all_targets.BondArpAllTargets.{enum}

-- in the order of the variants
abbrev pub arp_all_targets_rows : List (Named BondArpAllTargets)
arp_all_targets_rows =
    (0, Any, codes "any") ∷ (1, All, codes "all") ∷ []

-- the value that a number reads as, and the number that one is written as
abbrev pub arp_all_target_rules : Numbering ℕ BondArpAllTargets
arp_all_target_rules = enumeration enum (numbered arp_all_targets_rows) Other (λ f. f.0) (λ d. refl) refl

-- how one is read and written
abbrev pub arp_all_targets : Layout BondArpAllTargets
arp_all_targets = formed le32 arp_all_target_rules

-- the text of one: its name, and of any other its number
abbrev pub arp_all_targets_text : BondArpAllTargets → List ℕ
arp_all_targets_text x = text_in enum arp_all_targets_rows (λ f. codes "unknown-variant (" ++ decimal f.0 ++ codes ")") x
