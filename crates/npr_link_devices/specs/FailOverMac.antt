-- Which addresses the ports of a bond have, by the table: `BOND_FOM_*` of the kernel's `net/bonding.h`.
use Rattle.std.specs.Prelude.{ℕ, List, [], ◌∷◌, codes, decimal, ◌++◌}
use Rattle.std.proofs.Common.{refl}
use Rattle.npr_base.specs.Layout.{Layout, byte, formed}
use Rattle.npr_base.specs.Numbering.{Numbering}
use Rattle.npr_base.specs.Rows.{Named, numbered, text_in}
use Rattle.npr_base.specs.Enumeration.{enumeration}
use Rattle.npr_link_devices.specs.declared.fail_over_mac.BondFailOverMac.{BondFailOverMac}
use Rattle.npr_link_devices.specs.declared.fail_over_mac.BondFailOverMac.TheVariants.{None, Active, Follow, Other}
use Rattle.npr_link_devices.specs.contracts.fail_over_mac.BondFailOverMac.{enum}

-- in the order of the variants
abbrev pub fail_over_mac_rows : List (Named BondFailOverMac)
fail_over_mac_rows =
    (0, None, codes "none") ∷ (1, Active, codes "active") ∷ (2, Follow, codes "follow") ∷ []

-- the value that a number reads as, and the number that one is written as
abbrev pub fail_over_macs : Numbering ℕ BondFailOverMac
fail_over_macs = enumeration enum (numbered fail_over_mac_rows) Other (λ f. f.0) (λ d. refl) refl

-- how one is read and written
abbrev pub fail_over_mac : Layout BondFailOverMac
fail_over_mac = formed byte fail_over_macs

-- the text of one: its name, and of any other its number
abbrev pub fail_over_mac_text : BondFailOverMac → List ℕ
fail_over_mac_text x = text_in enum fail_over_mac_rows (λ f. codes "unknown-variant (" ++ decimal f.0 ++ codes ")") x
