-- What `==` answers of attributes and messages of links: whether they mean the same.
use Rattle.std.specs.Prelude.{ℕ, true, List, [], ◌∷◌, ◌&&◌, ◌==◌, drop, map, length, if◌then◌else◌}
use Rattle.std.specs.Bool.{Decides}
use Rattle.std.specs.Cmp.{signed_Decides, unsigned_Decides}
use Rattle.std.specs.Str.{bytes_eq}
use Rattle.std.specs.String.{string_bytes}
use Rattle.std.proofs.Common.{◌≡◌, ◌+◌, refl, ap, inl, inr}
use Rattle.npr_base.specs.Equality.{IsEqualityOf}
use Rattle.npr_base.specs.EnumTable.{◌also◌}
use Rattle.npr_base.proofs.FieldEquality.{one, list, number, truth, bytes, kept}
use Rattle.npr_base.specs.Framing.{Item}
use Rattle.npr_base.specs.Message.{View}
use Rattle.npr_base.proofs.IpLaws.{ipv6_equality}
use Rattle.npr_base.proofs.MeaningLaws.{enum_meaning, one_meaning, items_equality, items_meaning, text_equality}
use Rattle.npr_base.proofs.StructLaws.{◌beside◌, and_decides, decides_as}
use Rattle.npr_base.specs.Tables.{table_decides}
use Rattle.npr_link.specs.AfSpecInet as OfAfSpecInet
use Rattle.npr_link.specs.contracts.af_spec_inet.AfSpecInetPartialEq.TheImpl as InetEq
use Rattle.npr_link.specs.AfSpecInet6 as OfAfSpecInet6
use Rattle.npr_link.specs.contracts.af_spec_inet6.AfSpecInet6PartialEq.TheImpl as Inet6Eq
use Rattle.npr_link.specs.AfSpec as OfAfSpec
use Rattle.npr_link.specs.contracts.af_spec.AfSpecUnspecPartialEq.TheImpl as AfSpecEq
use Rattle.npr_link.specs.AfSpecMctp as OfMctp
use Rattle.npr_link.specs.contracts.af_spec_mctp.AfSpecMctpPartialEq.TheImpl as MctpEq
use Rattle.npr_link.specs.DpllPin as OfPin
use Rattle.npr_link.specs.contracts.dpll_pin.LinkDpllPinPartialEq.TheImpl as PinEq
use Rattle.npr_link.specs.Xdp as OfXdp
use Rattle.npr_link.specs.contracts.xdp.LinkXdpPartialEq.TheImpl as XdpEq
use Rattle.npr_link.specs.Prop as OfProp
use Rattle.npr_link.specs.contracts.prop.PropPartialEq.TheImpl as PropEq
use Rattle.npr_link.specs.ProtocolDown as OfProtocolDown
use Rattle.npr_link.specs.contracts.protocol_down.LinkProtocolDownReasonPartialEq.TheImpl as ReasonEq
use Rattle.npr_link_bridge.specs.Bridge as OfBridge
use Rattle.npr_link_bridge.specs.BridgePort as OfBridgePort
use Rattle.npr_link.specs.Netkit as OfNetkit
use Rattle.npr_link_devices.specs.Hsr as OfHsr
use Rattle.npr_link_devices.specs.Ipoib as OfIpoib
use Rattle.npr_link_devices.specs.MacSec as OfMacSec
use Rattle.npr_link_tunnels.specs.Gtp as OfGtp
use Rattle.npr_link_tunnels.specs.Ovpn as OfOvpn
use Rattle.npr_link_devices.specs.Bond as OfBond
use Rattle.npr_link_devices.specs.BondPort as OfBondPort
use Rattle.npr_link_devices.specs.IpVlan as OfIpVlan
use Rattle.npr_link_devices.specs.MacVlan as OfMacVlan
use Rattle.npr_link_devices.specs.Tun as OfTun
use Rattle.npr_link_tunnels.specs.Geneve as OfGeneve
use Rattle.npr_link_tunnels.specs.Gre as OfGre
use Rattle.npr_link_tunnels.specs.Gre6 as OfGre6
use Rattle.npr_link_tunnels.specs.IpTunnel as OfIpTunnel
use Rattle.npr_link_tunnels.specs.Vti as OfVti
use Rattle.npr_link_tunnels.specs.Vxlan as OfVxlan
use Rattle.npr_link_tunnels.specs.Xfrm as OfXfrm
use Rattle.npr_link.specs.contracts.netkit.InfoNetkitPartialEq.TheImpl as NetkitEq
use Rattle.npr_link_devices.proofs.EqualityLaws.{tun_equality, bond_equality, bond_port_equality, ip_vlan_equality, mac_vlan_equality}
use Rattle.npr_link_devices.proofs.EqualityLaws.{hsr_equality, ipoib_equality, mac_sec_equality}
use Rattle.npr_link_functions.proofs.EqualityLaws.{link_info_equality, link_port_equality, port_equality}
use Rattle.npr_link_tunnels.proofs.EqualityLaws.{vxlan_equality, geneve_equality, gre_equality, gre6_equality, ip_tunnel_equality, vti_equality, xfrm_equality}
use Rattle.npr_link_tunnels.proofs.EqualityLaws.{gtp_equality, ovpn_equality}
use Rattle.npr_link.proofs.ValueEquality.{netkit_mode_equality, netkit_policy_equality, netkit_scrub_equality}
use Rattle.npr_link.specs.VlanQos as OfVlanQos
use Rattle.npr_link.specs.contracts.vlan_qos.VlanQosMappingPartialEq.TheImpl as QosEq
use Rattle.npr_link.specs.Vlan as OfVlan
use Rattle.npr_link.specs.contracts.vlan.InfoVlanPartialEq.TheImpl as VlanEq
use Rattle.npr_link.specs.Vrf as OfVrf
use Rattle.npr_link.specs.contracts.vrf.InfoVrfPartialEq.TheImpl as VrfEq
use Rattle.npr_link.specs.PeerAttribute as OfPeerAttribute
use Rattle.npr_link.specs.contracts.peer_attribute.PeerAttributePartialEq.TheImpl as PeerAttributeEq
use Rattle.npr_link.specs.Veth as OfVeth
use Rattle.npr_link.specs.contracts.veth.InfoVethPartialEq.TheImpl as VethEq
use Rattle.npr_link.specs.Info as OfInfo
use Rattle.npr_link.specs.contracts.info.LinkInfoPartialEq.TheImpl as InfoEq
use Rattle.npr_link.specs.Attribute as OfAttribute
use Rattle.npr_link.specs.contracts.attribute.LinkAttribute.{enum as attribute_enum}
use Rattle.npr_link.specs.contracts.attribute.LinkAttributePartialEq.TheImpl as AttributeEq
use Rattle.npr_link.specs.contracts.info_kind.InfoKind.{enum as kind_enum}
use Rattle.npr_link.specs.contracts.info_kind.InfoKindPartialEq.TheImpl as KindEq
use Rattle.npr_link.specs.contracts.port_kind.InfoPortKind.{enum as port_kind_enum}
use Rattle.npr_link.specs.contracts.port_kind.InfoPortKindPartialEq.TheImpl as PortKindEq
use Rattle.npr_link.specs.contracts.info_data.InfoData.{enum as data_enum}
use Rattle.npr_link.specs.contracts.info_data.InfoDataPartialEq.TheImpl as DataEq
use Rattle.npr_link.specs.contracts.port_data.InfoPortData.{enum as port_data_enum}
use Rattle.npr_link.specs.contracts.port_data.InfoPortDataPartialEq.TheImpl as PortDataEq
use Rattle.npr_link.specs.contracts.peer.LinkPeerPartialEq.TheImpl as PeerEq
use Rattle.npr_link.specs.InfoKind.{info_kind_of, info_kind_names}
use Rattle.npr_link.specs.PortKind.{port_kind_of, port_kind_names}
use Rattle.npr_link.specs.Kinds.{Kind, known, other}
use Rattle.npr_link.specs.InfoData as D
use Rattle.npr_link.specs.PortData as Q
use Rattle.npr_link.specs.Peer.{peer_of, peers}
use Rattle.npr_link.specs.Governing.{none_governs}
use Rattle.npr_link.specs.AfSpecs.{as_list, unspec, bridge, unknown}
use Rattle.npr_link.specs.ProtoInfos as OfProto
use Rattle.npr_base.specs.lemmas.EnumTable.{choices-decide}
use Rattle.npr_base.proofs.Firsts.{head_of, first-decides}
use Rattle.npr_link_bridge.specs.AfSpecBridge as OfAfSpecBridge
use Rattle.npr_link.proofs.ValueEquality.{address_mode_equality, attachment_equality, cache_info_equality, extent_mask_equality, inet6_flags_equality}
use Rattle.npr_link.proofs.ValueEquality.{link_event_equality, link_mode_equality, map_equality, state_equality, vlan_flags_equality, header_equality}
use Rattle.npr_link_bridge.proofs.EqualityLaws.{vlan_protocol_equality, bridge_equality, bridge_port_equality, af_spec_bridge_equality}
use Rattle.npr_link_statistics.proofs.EqualityLaws.{stats_equality, stats64_equality, inet_devconf_equality}
use Rattle.npr_link_statistics.proofs.EqualityLaws.{inet6_devconf_equality, inet6_stats_equality, icmp6_stats_equality}
use denote.Enum.Declared.{Choice}
use denote.Struct.Values.{Values}

-- ---- a variant of two fields

two_numbers : (x y : ℕ × (ℕ × Unit {0})) → Decides ((x.0 == y.0) && (x.1.0 == y.1.0)) (◌≡◌ {A = ℕ × ℕ} (x.0, x.1.0) (y.0, y.1.0))
two_numbers x y = (unsigned_Decides beside unsigned_Decides) (x.0, x.1.0) (y.0, y.1.0)

-- ---- families

pub inet_equality : IsEqualityOf OfAfSpecInet.family.meaning InetEq.ghosts.eq
inet_equality =
    table_decides OfAfSpecInet.table _
    (one inet_devconf_equality also kept also tt)

pub inet6_equality : IsEqualityOf OfAfSpecInet6.family.meaning Inet6Eq.ghosts.eq
inet6_equality =
    table_decides OfAfSpecInet6.table _
    (one inet6_flags_equality also one inet6_devconf_equality also one inet6_stats_equality also bytes also
    one cache_info_equality also
    one icmp6_stats_equality also one ipv6_equality also one address_mode_equality also number also kept also tt)

pub mctp_equality : IsEqualityOf OfMctp.family.meaning MctpEq.ghosts.eq
mctp_equality = table_decides OfMctp.table _ (number also number also kept also tt)

pub pin_equality : IsEqualityOf OfPin.family.meaning PinEq.ghosts.eq
pin_equality = table_decides OfPin.table _ (number also kept also tt)

pub af_spec_equality : IsEqualityOf OfAfSpec.family.meaning AfSpecEq.ghosts.eq
af_spec_equality =
    table_decides OfAfSpec.table _
    (list inet_equality also list inet6_equality also list mctp_equality also kept also tt)

pub xdp_equality : IsEqualityOf OfXdp.family.meaning XdpEq.ghosts.eq
xdp_equality =
    table_decides OfXdp.table _
    (one signed_Decides also one attachment_equality also number also number also number also number also number also number also
    kept also tt)

pub prop_equality : IsEqualityOf OfProp.family.meaning PropEq.ghosts.eq
prop_equality =
    table_decides OfProp.table _
    (one text_equality also kept also tt)

pub reason_equality : IsEqualityOf OfProtocolDown.family.meaning ReasonEq.ghosts.eq
reason_equality =
    table_decides OfProtocolDown.table _
    (number also number also kept also tt)

pub qos_equality : IsEqualityOf OfVlanQos.family.meaning QosEq.ghosts.eq
qos_equality =
    table_decides OfVlanQos.table _
    (two_numbers also kept also tt)

pub vlan_equality : IsEqualityOf OfVlan.family.meaning VlanEq.ghosts.eq
vlan_equality =
    table_decides OfVlan.table _
    (number also one (vlan_flags_equality beside vlan_flags_equality) also list qos_equality also list qos_equality also
    one vlan_protocol_equality also kept also tt)

pub vrf_equality : IsEqualityOf OfVrf.family.meaning VrfEq.ghosts.eq
vrf_equality =
    table_decides OfVrf.table _
    (number also kept also tt)

pub peer_attribute_equality : IsEqualityOf OfPeerAttribute.family.meaning PeerAttributeEq.ghosts.eq
peer_attribute_equality =
    table_decides OfPeerAttribute.table _
    (bytes also bytes also one text_equality also number also number also one state_equality also one link_mode_equality also
    number also number also one signed_Decides also number also number also number also number also one signed_Decides also
    number also number also number also kept also tt)

-- ---- the other end of a pair

pub peer_equality : IsEqualityOf peer_of PeerEq.ghosts.eq
peer_equality a b =
    decides_as
    (λ p. λ i. record { header = p.0 i; attributes = p.1 i })
    (λ e. (ap (λ (m : View peers). m.header) e, ap (λ (m : View peers). m.attributes) e))
    (and_decides (header_equality a.header b.header) (items_meaning OfPeerAttribute.family.meaning peer_attribute_equality a.attributes b.attributes))

pub veth_equality : IsEqualityOf OfVeth.family.meaning VethEq.ghosts.eq
veth_equality = table_decides OfVeth.table _ (one peer_equality also kept also tt)

pub netkit_equality : IsEqualityOf OfNetkit.family.meaning NetkitEq.ghosts.eq
netkit_equality =
    table_decides OfNetkit.table _
    (one peer_equality also truth also one netkit_policy_equality also one netkit_policy_equality also one netkit_mode_equality also
    one netkit_scrub_equality also one netkit_scrub_equality also number also number also number also kept also tt)

-- ---- kinds

-- the place of a kind among these names
place : List (List ℕ) → List ℕ → ℕ
place [] text = 0
place (n ∷ names) text = if bytes_eq text n then 0 else 1 + place names text

order : List (List ℕ) → Kind → ℕ
order names (known text) = place names text
order names (other text) = length names

bare : (names : List (List ℕ)) {t m : Kind} {n : ℕ} → order names m ≡ n
    → ((x : Unit {0}) → order names m ≡ n) × ((x y : Unit {0}) → m ≡ t → Decides true (m ≡ m))
bare names is = (λ x. is, λ x y e. (λ h. refl, λ h. refl))

pub kind_equality : IsEqualityOf info_kind_of KindEq.ghosts.eq
unfolding order place
kind_equality =
    enum_meaning (order info_kind_names) kind_enum info_kind_of _ (λ t.
    bare info_kind_names refl also bare info_kind_names refl also bare info_kind_names refl also bare info_kind_names refl also
    bare info_kind_names refl also bare info_kind_names refl also bare info_kind_names refl also bare info_kind_names refl also
    bare info_kind_names refl also bare info_kind_names refl also bare info_kind_names refl also bare info_kind_names refl also
    bare info_kind_names refl also bare info_kind_names refl also bare info_kind_names refl also bare info_kind_names refl also
    bare info_kind_names refl also bare info_kind_names refl also bare info_kind_names refl also bare info_kind_names refl also
    bare info_kind_names refl also bare info_kind_names refl also bare info_kind_names refl also bare info_kind_names refl also
    bare info_kind_names refl also bare info_kind_names refl also bare info_kind_names refl also bare info_kind_names refl also
    bare info_kind_names refl also bare info_kind_names refl also bare info_kind_names refl also bare info_kind_names refl also
    bare info_kind_names refl also bare info_kind_names refl also bare info_kind_names refl also
    (λ x. refl, one_meaning (λ s. string_bytes s) other text_equality (λ p q e. cc)) also tt)

pub port_kind_equality : IsEqualityOf port_kind_of PortKindEq.ghosts.eq
unfolding order place
port_kind_equality =
    enum_meaning (order port_kind_names) port_kind_enum port_kind_of _ (λ t.
    bare port_kind_names refl also bare port_kind_names refl also bare port_kind_names refl also
    (λ x. refl, one_meaning (λ s. string_bytes s) other text_equality (λ p q e. cc)) also tt)

-- ---- data

data_order : D.Data → ℕ
data_order (D.bridge xs) = 0
data_order (D.tun xs) = 1
data_order (D.vlan xs) = 2
data_order (D.veth xs) = 3
data_order (D.vxlan xs) = 4
data_order (D.bond xs) = 5
data_order (D.ip_vlan xs) = 6
data_order (D.ip_vtap xs) = 7
data_order (D.mac_vlan xs) = 8
data_order (D.mac_vtap xs) = 9
data_order (D.gre_tap xs) = 10
data_order (D.gre_tap6 xs) = 11
data_order (D.ip_tunnel xs) = 12
data_order (D.gre_tun xs) = 13
data_order (D.gre_tun6 xs) = 14
data_order (D.vti xs) = 15
data_order (D.vrf xs) = 16
data_order (D.xfrm xs) = 17
data_order (D.geneve xs) = 18
data_order (D.netkit xs) = 19
data_order (D.erspan xs) = 20
data_order (D.erspan6 xs) = 21
data_order (D.vxcan xs) = 22
data_order (D.hsr xs) = 23
data_order (D.ipoib xs) = 24
data_order (D.mac_sec xs) = 25
data_order (D.gtp xs) = 26
data_order (D.ovpn xs) = 27
data_order (D.other bytes) = 28

pub data_equality : IsEqualityOf D.info_data_of DataEq.ghosts.eq
unfolding data_order
data_equality =
    enum_meaning data_order data_enum D.info_data_of _ (λ t.
    (λ x. refl, one_meaning (λ v. map OfBridge.family.meaning v.items) D.bridge (items_meaning OfBridge.family.meaning bridge_equality) (λ p q e. cc)) also
    (λ x. refl, one_meaning (λ v. map OfTun.family.meaning v.items) D.tun (items_meaning OfTun.family.meaning tun_equality) (λ p q e. cc)) also
    (λ x. refl, one_meaning (λ v. map OfVlan.family.meaning v.items) D.vlan (items_meaning OfVlan.family.meaning vlan_equality) (λ p q e. cc)) also
    (λ x. refl, one_meaning (λ v. map OfVeth.family.meaning v.items) D.veth (items_meaning OfVeth.family.meaning veth_equality) (λ p q e. cc)) also
    (λ x. refl, one_meaning (λ v. map OfVxlan.family.meaning v.items) D.vxlan (items_meaning OfVxlan.family.meaning vxlan_equality) (λ p q e. cc)) also
    (λ x. refl, one_meaning (λ v. map OfBond.family.meaning v.items) D.bond (items_meaning OfBond.family.meaning bond_equality) (λ p q e. cc)) also
    (λ x. refl, one_meaning (λ v. map OfIpVlan.family.meaning v.items) D.ip_vlan (items_meaning OfIpVlan.family.meaning ip_vlan_equality) (λ p q e. cc)) also
    (λ x. refl, one_meaning (λ v. map OfIpVlan.family.meaning v.items) D.ip_vtap (items_meaning OfIpVlan.family.meaning ip_vlan_equality) (λ p q e. cc)) also
    (λ x. refl, one_meaning (λ v. map OfMacVlan.family.meaning v.items) D.mac_vlan (items_meaning OfMacVlan.family.meaning mac_vlan_equality) (λ p q e. cc)) also
    (λ x. refl, one_meaning (λ v. map OfMacVlan.family.meaning v.items) D.mac_vtap (items_meaning OfMacVlan.family.meaning mac_vlan_equality) (λ p q e. cc)) also
    (λ x. refl, one_meaning (λ v. map OfGre.family.meaning v.items) D.gre_tap (items_meaning OfGre.family.meaning gre_equality) (λ p q e. cc)) also
    (λ x. refl, one_meaning (λ v. map OfGre6.family.meaning v.items) D.gre_tap6 (items_meaning OfGre6.family.meaning gre6_equality) (λ p q e. cc)) also
    (λ x. refl, one_meaning (λ v. map OfIpTunnel.family.meaning v.items) D.ip_tunnel (items_meaning OfIpTunnel.family.meaning ip_tunnel_equality) (λ p q e. cc)) also
    (λ x. refl, one_meaning (λ v. map OfGre.family.meaning v.items) D.gre_tun (items_meaning OfGre.family.meaning gre_equality) (λ p q e. cc)) also
    (λ x. refl, one_meaning (λ v. map OfGre6.family.meaning v.items) D.gre_tun6 (items_meaning OfGre6.family.meaning gre6_equality) (λ p q e. cc)) also
    (λ x. refl, one_meaning (λ v. map OfVti.family.meaning v.items) D.vti (items_meaning OfVti.family.meaning vti_equality) (λ p q e. cc)) also
    (λ x. refl, one_meaning (λ v. map OfVrf.family.meaning v.items) D.vrf (items_meaning OfVrf.family.meaning vrf_equality) (λ p q e. cc)) also
    (λ x. refl, one_meaning (λ v. map OfXfrm.family.meaning v.items) D.xfrm (items_meaning OfXfrm.family.meaning xfrm_equality) (λ p q e. cc)) also
    (λ x. refl, one_meaning (λ v. map OfGeneve.family.meaning v.items) D.geneve (items_meaning OfGeneve.family.meaning geneve_equality) (λ p q e. cc)) also
    (λ x. refl, one_meaning (λ v. map OfNetkit.family.meaning v.items) D.netkit (items_meaning OfNetkit.family.meaning netkit_equality) (λ p q e. cc)) also
    (λ x. refl, one_meaning (λ v. map OfGre.family.meaning v.items) D.erspan (items_meaning OfGre.family.meaning gre_equality) (λ p q e. cc)) also
    (λ x. refl, one_meaning (λ v. map OfGre6.family.meaning v.items) D.erspan6 (items_meaning OfGre6.family.meaning gre6_equality) (λ p q e. cc)) also
    (λ x. refl, one_meaning (λ v. map OfVeth.family.meaning v.items) D.vxcan (items_meaning OfVeth.family.meaning veth_equality) (λ p q e. cc)) also
    (λ x. refl, one_meaning (λ v. map OfHsr.family.meaning v.items) D.hsr (items_meaning OfHsr.family.meaning hsr_equality) (λ p q e. cc)) also
    (λ x. refl, one_meaning (λ v. map OfIpoib.family.meaning v.items) D.ipoib (items_meaning OfIpoib.family.meaning ipoib_equality) (λ p q e. cc)) also
    (λ x. refl, one_meaning (λ v. map OfMacSec.family.meaning v.items) D.mac_sec (items_meaning OfMacSec.family.meaning mac_sec_equality) (λ p q e. cc)) also
    (λ x. refl, one_meaning (λ v. map OfGtp.family.meaning v.items) D.gtp (items_meaning OfGtp.family.meaning gtp_equality) (λ p q e. cc)) also
    (λ x. refl, one_meaning (λ v. map OfOvpn.family.meaning v.items) D.ovpn (items_meaning OfOvpn.family.meaning ovpn_equality) (λ p q e. cc)) also
    (λ x. refl, one_meaning (λ v. v.items) D.other (items_equality unsigned_Decides) (λ p q e. cc)) also tt)

port_data_order : Q.Data → ℕ
port_data_order (Q.bridge xs) = 0
port_data_order (Q.vrf xs) = 1
port_data_order (Q.bond xs) = 2
port_data_order (Q.other bytes) = 3

pub port_data_equality : IsEqualityOf Q.port_data_of PortDataEq.ghosts.eq
unfolding port_data_order
port_data_equality =
    enum_meaning port_data_order port_data_enum Q.port_data_of _ (λ t.
    (λ x. refl, one_meaning (λ v. map OfBridgePort.family.meaning v.items) Q.bridge (items_meaning OfBridgePort.family.meaning bridge_port_equality) (λ p q e. cc)) also
    (λ x. refl, one_meaning (λ v. map OfVrf.family.meaning v.items) Q.vrf (items_meaning OfVrf.family.meaning vrf_equality) (λ p q e. cc)) also
    (λ x. refl, one_meaning (λ v. map OfBondPort.family.meaning v.items) Q.bond (items_meaning OfBondPort.family.meaning bond_port_equality) (λ p q e. cc)) also
    (λ x. refl, one_meaning (λ v. v.items) Q.other (items_equality unsigned_Decides) (λ p q e. cc)) also tt)

pub info_equality : IsEqualityOf OfInfo.family.meaning InfoEq.ghosts.eq
info_equality =
    table_decides (OfInfo.table none_governs) _
    (one kind_equality also one data_equality also bytes also one port_kind_equality also one port_data_equality also kept also
    tt)

-- ---- attributes of a message

-- what each of the first five variants means, no later one does
inet6_apart : (x : Values (head_of attribute_enum.parts)) (c : Choice (drop 1 attribute_enum.parts))
    → OfAttribute.meaning_of (inl x) ≡ OfAttribute.meaning_of (inr c) → ⊥
inet6_apart x (inl y) e = absurd cc
inet6_apart x (inr (inl y)) e = absurd cc
inet6_apart x (inr (inr (inl y))) e = absurd cc
inet6_apart x (inr (inr (inr (inl y)))) e = absurd cc
inet6_apart x (inr (inr (inr (inr c)))) e = absurd cc

port_apart : (x : Values (head_of (drop 1 attribute_enum.parts))) (c : Choice (drop 2 attribute_enum.parts))
    → OfAttribute.meaning_of (inr (inl x)) ≡ OfAttribute.meaning_of (inr (inr c)) → ⊥
port_apart x (inl y) e = absurd cc
port_apart x (inr (inl y)) e = absurd cc
port_apart x (inr (inr (inl y))) e = absurd cc
port_apart x (inr (inr (inr c))) e = absurd cc

whole_apart : (x : Values (head_of (drop 2 attribute_enum.parts))) (c : Choice (drop 3 attribute_enum.parts))
    → OfAttribute.meaning_of (inr (inr (inl x))) ≡ OfAttribute.meaning_of (inr (inr (inr c))) → ⊥
whole_apart x (inl y) e = absurd cc
whole_apart x (inr (inl y)) e = absurd cc
whole_apart x (inr (inr c)) e = absurd cc

unspec_apart : (x : Values (head_of (drop 3 attribute_enum.parts))) (c : Choice (drop 4 attribute_enum.parts))
    → OfAttribute.meaning_of (inr (inr (inr (inl x)))) ≡ OfAttribute.meaning_of (inr (inr (inr (inr c)))) → ⊥
unspec_apart x (inl y) e = absurd cc
unspec_apart x (inr (inl y)) e = absurd cc
unspec_apart x (inr (inr c)) e = absurd cc

bridge_apart : (x : Values (head_of (drop 4 attribute_enum.parts))) (c : Choice OfAttribute.later)
    → OfAttribute.meaning_of (inr (inr (inr (inr (inl x))))) ≡ OfAttribute.meaning_of (inr (inr (inr (inr (inr c))))) → ⊥
bridge_apart x (inl y) e = absurd cc
bridge_apart x (inr c) e = absurd cc

pub attribute_equality : IsEqualityOf OfAttribute.meaning AttributeEq.ghosts.eq
attribute_equality a b =
    first-decides (head_of attribute_enum.parts) (drop 1 attribute_enum.parts) OfAttribute.meaning_of _
    (λ x y. decides_as (λ e. ap (λ (xs : List OfAfSpecInet6.family.Meaning). inl (OfProto.inet6 xs)) e) (λ e. cc) (list inet6_equality x y))
    (first-decides (head_of (drop 1 attribute_enum.parts)) (drop 2 attribute_enum.parts) (λ c. OfAttribute.meaning_of (inr c)) _
    (λ x y. decides_as (λ e. ap (λ (xs : List OfBridgePort.family.Meaning). inl (OfProto.bridge xs)) e) (λ e. cc) (list bridge_port_equality x y))
    (first-decides (head_of (drop 2 attribute_enum.parts)) (drop 3 attribute_enum.parts) (λ c. OfAttribute.meaning_of (inr (inr c))) _
    (λ x y. decides_as (λ e. ap (λ (z : Item). inl (OfProto.unknown z)) e) (λ e. cc) (kept x y))
    (first-decides (head_of (drop 3 attribute_enum.parts)) (drop 4 attribute_enum.parts) (λ c. OfAttribute.meaning_of (inr (inr (inr c)))) _
    (λ x y. decides_as (λ e. ap (λ (xs : List OfAfSpec.family.Meaning). inr (inl (unspec xs))) e) (λ e. cc) (list af_spec_equality x y))
    (first-decides (head_of (drop 4 attribute_enum.parts)) OfAttribute.later (λ c. OfAttribute.meaning_of (inr (inr (inr (inr c))))) _
    (λ x y. decides_as (λ e. ap (λ (xs : List OfAfSpecBridge.family.Meaning). inr (inl (bridge xs))) e) (λ e. cc) (list af_spec_bridge_equality x y))
    (λ c d. decides_as (λ e. ap (λ (m : OfAttribute.Rest). inr m) e) (λ e. cc)
    (choices-decide OfAttribute.later (OfAttribute.rows as_list).0 _
    ((λ x y. decides_as (λ e. ap unknown e) (λ e. cc) (bytes x y)) also list info_equality also bytes also bytes also one text_equality also
    number also number also one text_equality also one stats_equality also number also number also one map_equality also
    one state_equality also one link_mode_equality also number also one text_equality also number also one stats64_equality also
    number also one signed_Decides also one extent_mask_equality also number also number also number also number also bytes also
    number also bytes also one signed_Decides also one text_equality also number also number also number also list xdp_equality also
    one link_event_equality also one signed_Decides also one signed_Decides also number also number also one signed_Decides also
    number also number also list prop_equality also one text_equality also bytes also list reason_equality also
    one text_equality also one text_equality also number also number also number also number also number also number also
    number also truth also number also number also bytes also number also list link_info_equality also list link_port_equality also
    list port_equality also bytes also list pin_equality also kept also tt) c d))
    bridge_apart) unspec_apart) whole_apart) port_apart) inet6_apart (attribute_enum.as_values a) (attribute_enum.as_values b)
