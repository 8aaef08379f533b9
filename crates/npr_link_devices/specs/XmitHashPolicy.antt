-- What a packet's port is chosen by, by the table: `BOND_XMIT_POLICY_*` of `linux/if_bonding.h`.
use Rattle.std.specs.Prelude.{ℕ, List, [], ◌∷◌, codes, decimal, ◌++◌}
use Rattle.std.proofs.Common.{refl}
use Rattle.npr_base.specs.Layout.{Layout, byte, formed}
use Rattle.npr_base.specs.Numbering.{Numbering}
use Rattle.npr_base.specs.Rows.{Named, numbered, text_in}
use Rattle.npr_base.specs.Enumeration.{enumeration}
use Rattle.npr_link_devices.specs.declared.xmit_hash_policy.BondXmitHashPolicy.{BondXmitHashPolicy}
use Rattle.npr_link_devices.specs.declared.xmit_hash_policy.BondXmitHashPolicy.TheVariants.{Layer2, Layer34, Layer23, Encap23, Encap34, VlanSrcMac, Other}
use Rattle.npr_link_devices.specs.contracts.xmit_hash_policy.BondXmitHashPolicy.{enum}

-- in the order of the variants
abbrev pub xmit_hash_policy_rows : List (Named BondXmitHashPolicy)
xmit_hash_policy_rows =
    (0, Layer2, codes "layer2") ∷ (1, Layer34, codes "layer34") ∷ (2, Layer23, codes "layer23") ∷ (3, Encap23, codes "encap23") ∷
    (4, Encap34, codes "encap34") ∷ (5, VlanSrcMac, codes "vlan-src-mac") ∷ []

-- the value that a number reads as, and the number that one is written as
abbrev pub xmit_hash_policies : Numbering ℕ BondXmitHashPolicy
xmit_hash_policies = enumeration enum (numbered xmit_hash_policy_rows) Other (λ f. f.0) (λ d. refl) refl

-- how one is read and written
abbrev pub xmit_hash_policy : Layout BondXmitHashPolicy
xmit_hash_policy = formed byte xmit_hash_policies

-- the text of one: its name, and of any other its number
abbrev pub xmit_hash_policy_text : BondXmitHashPolicy → List ℕ
xmit_hash_policy_text x = text_in enum xmit_hash_policy_rows (λ f. codes "unknown-variant (" ++ decimal f.0 ++ codes ")") x
