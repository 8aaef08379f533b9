-- The protocol of the tags of a VLAN, by the table: `ETH_P_8021Q` and `ETH_P_8021AD` of `linux/if_ether.h`.
use Rattle.std.specs.Prelude.{ℕ, List, [], ◌∷◌, codes, decimal}
use Rattle.std.proofs.Common.{refl}
use Rattle.npr_base.specs.Layout.{Layout, be16, formed}
use Rattle.npr_base.specs.Numbering.{Numbering}
use Rattle.npr_base.specs.Rows.{Named, numbered, text_in}
use Rattle.npr_base.specs.Enumeration.{enumeration}
use Rattle.npr_link_bridge.specs.declared.vlan_protocol.VlanProtocol.{VlanProtocol}
use Rattle.npr_link_bridge.specs.declared.vlan_protocol.VlanProtocol.TheVariants.{Ieee8021Q, Ieee8021Ad, Other}
use Rattle.npr_link_bridge.specs.contracts.vlan_protocol.VlanProtocol.{enum}

-- in the order of the variants
abbrev pub vlan_protocol_rows : List (Named VlanProtocol)
vlan_protocol_rows =
    (33024, Ieee8021Q, codes "802.1q") ∷ (34984, Ieee8021Ad, codes "802.1ad") ∷ []

-- the value that a number reads as, and the number that one is written as
abbrev pub vlan_protocols : Numbering ℕ VlanProtocol
vlan_protocols = enumeration enum (numbered vlan_protocol_rows) Other (λ f. f.0) (λ d. refl) refl

-- how one is read and written
abbrev pub vlan_protocol : Layout VlanProtocol
vlan_protocol = formed be16 vlan_protocols

-- the text of one: its name, and of any other its number
abbrev pub vlan_protocol_text : VlanProtocol → List ℕ
vlan_protocol_text x = text_in enum vlan_protocol_rows (λ f. decimal f.0) x
