-- The reading of what a driver says of a link ends at its first failed look.
use Rattle.std.proofs.Common.{Option, Some, None, ℕ, ◌≡◌, ◌+◌, ◌≤◌, ap, arith, inl, inr}
use Rattle.npr_base.specs.Counts.{Counts}
use Rattle.npr_base.specs.Message.{MessageLooks}
use Rattle.npr_link_bridge.specs.Bridge as OfBridge
use Rattle.npr_link_bridge.specs.BridgePort as OfBridgePort
use Rattle.npr_base.specs.lemmas.Fails.{FailsOnce, InsideOnce, list-once, once_then, rows-once}
use Rattle.npr_link.specs.Governing.{Forms}
use Rattle.npr_link.specs.Info as OfInfo
use Rattle.npr_link.specs.InfoData.{info_data}
use Rattle.npr_base.specs.MessageValue.{value_looking}
use Rattle.npr_link.specs.Header.{header, default_header}
use Rattle.npr_link.specs.PeerAttribute as OfPeer
use Rattle.npr_link.specs.PortData.{port_data}
use Rattle.npr_link_bridge.specs.QuerierState as OfQuerier
use Rattle.npr_link_devices.specs.Tun as OfTun
use Rattle.npr_link_devices.specs.contracts.tun.InfoTun.{enum as tun_enum}
use Rattle.npr_link_tunnels.specs.Vxlan as OfVxlan
use Rattle.npr_link_tunnels.specs.contracts.vxlan.InfoVxlan.{enum as vxlan_enum}
use Rattle.npr_link_devices.specs.IpVlan as OfIpVlan
use Rattle.npr_link_devices.specs.contracts.ip_vlan.InfoIpVlan.{enum as ip_vlan_enum}
use Rattle.npr_link_tunnels.specs.Gre as OfGre
use Rattle.npr_link_tunnels.specs.contracts.gre.InfoGre.{enum as gre_enum}
use Rattle.npr_link_tunnels.specs.Gre6 as OfGre6
use Rattle.npr_link_tunnels.specs.contracts.gre6.InfoGre6.{enum as gre6_enum}
use Rattle.npr_link_tunnels.specs.Vti as OfVti
use Rattle.npr_link_tunnels.specs.contracts.vti.InfoVti.{enum as vti_enum}
use Rattle.npr_link_tunnels.specs.Xfrm as OfXfrm
use Rattle.npr_link_tunnels.specs.contracts.xfrm.InfoXfrm.{enum as xfrm_enum}
use Rattle.npr_link_tunnels.specs.Geneve as OfGeneve
use Rattle.npr_link_tunnels.specs.contracts.geneve.InfoGeneve.{enum as geneve_enum}
use Rattle.npr_link_devices.specs.BondPort as OfBondPort
use Rattle.npr_link_devices.specs.contracts.bond_port.InfoBondPort.{enum as bond_port_enum}
use Rattle.npr_link_devices.specs.AdInfo as OfAdInfo
use Rattle.npr_link_devices.specs.Targets.{target_reading}
use Rattle.npr_link_devices.specs.contracts.ad_info.BondAdInfo.{enum as ad_info_enum}
use Rattle.npr_link_devices.specs.MacVlanAddress as OfMacVlanAddress
use Rattle.npr_link_devices.specs.contracts.mac_vlan_address.MacVlanAddress.{enum as mac_vlan_address_enum}
use Rattle.npr_link_devices.specs.MacVlan as OfMacVlan
use Rattle.npr_link_devices.specs.contracts.mac_vlan.InfoMacVlan.{enum as mac_vlan_enum}
use Rattle.npr_link_devices.specs.Bond as OfBond
use Rattle.npr_link_devices.specs.contracts.bond.InfoBond.{enum as bond_enum}
use Rattle.npr_link_tunnels.specs.IpTunnel as OfIpTunnel
use Rattle.npr_link_tunnels.specs.TunnelFlags.{Kind, ipip, sit, ip6tnl, kind_of}
use Rattle.npr_link_devices.specs.Hsr as OfHsr
use Rattle.npr_link_devices.specs.contracts.hsr.InfoHsr.{enum as hsr_enum}
use Rattle.npr_link_devices.specs.Ipoib as OfIpoib
use Rattle.npr_link_devices.specs.contracts.ipoib.InfoIpoib.{enum as ipoib_enum}
use Rattle.npr_link_devices.specs.MacSec as OfMacSec
use Rattle.npr_link_devices.specs.contracts.mac_sec.InfoMacSec.{enum as mac_sec_enum}
use Rattle.npr_link_tunnels.specs.Gtp as OfGtp
use Rattle.npr_link_tunnels.specs.contracts.gtp.InfoGtp.{enum as gtp_enum}
use Rattle.npr_link_tunnels.specs.Ovpn as OfOvpn
use Rattle.npr_link_tunnels.specs.contracts.ovpn.InfoOvpn.{enum as ovpn_enum}
use Rattle.npr_link.specs.Netkit as OfNetkit
use Rattle.npr_link.specs.contracts.netkit.InfoNetkit.{enum as netkit_enum}
use Rattle.npr_link.specs.Veth as OfVeth
use Rattle.npr_link.specs.Vlan as OfVlan
use Rattle.npr_link.specs.VlanQos as OfQos
use Rattle.npr_link.specs.Vrf as OfVrf
use Rattle.npr_link_bridge.specs.contracts.bridge.InfoBridge.{enum as bridge_enum}
use Rattle.npr_link_bridge.specs.contracts.bridge_port.InfoBridgePort.{enum as bridge_port_enum}
use Rattle.npr_link.specs.contracts.info.LinkInfo.{enum as info_enum}
use Rattle.npr_link.specs.contracts.peer_attribute.PeerAttribute.{enum as peer_enum}
use Rattle.npr_link_bridge.specs.contracts.querier_state.BridgeQuerierState.{enum as querier_enum}
use Rattle.npr_link.specs.contracts.veth.InfoVeth.{enum as veth_enum}
use Rattle.npr_link.specs.contracts.vlan.InfoVlan.{enum as vlan_enum}
use Rattle.npr_link.specs.contracts.vlan_qos.VlanQosMapping.{enum as qos_enum}
use Rattle.npr_link.specs.contracts.vrf.InfoVrf.{enum as vrf_enum}
use Rattle.npr_link_tunnels.specs.declared.form.InfoForm.{InfoForm}
use Rattle.npr_link_tunnels.specs.declared.form.InfoForm.TheVariants as InfoForm
use Rattle.npr_link.specs.declared.port_kind.InfoPortForm.{InfoPortForm}
use Rattle.npr_link.specs.declared.port_kind.InfoPortForm.TheVariants as InfoPortForm

-- ---- families without lists inside

querier_once : FailsOnce OfQuerier.attributes.looks
unfolding OfQuerier.attributes
querier_once = rows-once querier_enum.parts OfQuerier.table.rows tt

qos_once : FailsOnce OfQos.attributes.looks
unfolding OfQos.attributes
qos_once = rows-once qos_enum.parts OfQos.table.rows tt

vrf_once : FailsOnce OfVrf.attributes.looks
unfolding OfVrf.attributes
vrf_once = rows-once vrf_enum.parts OfVrf.table.rows tt

bridge_port_once : FailsOnce OfBridgePort.attributes.looks
unfolding OfBridgePort.attributes
bridge_port_once = rows-once bridge_port_enum.parts OfBridgePort.table.rows tt

peer_attribute_once : FailsOnce OfPeer.attributes.looks
unfolding OfPeer.attributes
peer_attribute_once = rows-once peer_enum.parts OfPeer.table.rows tt

tun_once : FailsOnce OfTun.attributes.looks
unfolding OfTun.attributes
tun_once = rows-once tun_enum.parts OfTun.table.rows tt

vxlan_once : FailsOnce OfVxlan.attributes.looks
unfolding OfVxlan.attributes
vxlan_once = rows-once vxlan_enum.parts OfVxlan.table.rows tt

ip_vlan_once : FailsOnce OfIpVlan.attributes.looks
unfolding OfIpVlan.attributes
ip_vlan_once = rows-once ip_vlan_enum.parts OfIpVlan.table.rows tt

gre_once : FailsOnce OfGre.attributes.looks
unfolding OfGre.attributes
gre_once = rows-once gre_enum.parts OfGre.table.rows tt

gre6_once : FailsOnce OfGre6.attributes.looks
unfolding OfGre6.attributes
gre6_once = rows-once gre6_enum.parts OfGre6.table.rows tt

vti_once : FailsOnce OfVti.attributes.looks
unfolding OfVti.attributes
vti_once = rows-once vti_enum.parts OfVti.table.rows tt

xfrm_once : FailsOnce OfXfrm.attributes.looks
unfolding OfXfrm.attributes
xfrm_once = rows-once xfrm_enum.parts OfXfrm.table.rows tt

geneve_once : FailsOnce OfGeneve.attributes.looks
unfolding OfGeneve.attributes
geneve_once = rows-once geneve_enum.parts OfGeneve.table.rows tt

bond_port_once : FailsOnce OfBondPort.attributes.looks
unfolding OfBondPort.attributes
bond_port_once = rows-once bond_port_enum.parts OfBondPort.table.rows tt

ad_info_once : FailsOnce OfAdInfo.attributes.looks
unfolding OfAdInfo.attributes
ad_info_once = rows-once ad_info_enum.parts OfAdInfo.table.rows tt

mac_vlan_address_once : FailsOnce OfMacVlanAddress.attributes.looks
unfolding OfMacVlanAddress.attributes
mac_vlan_address_once = rows-once mac_vlan_address_enum.parts OfMacVlanAddress.table.rows tt

hsr_once : FailsOnce OfHsr.attributes.looks
unfolding OfHsr.attributes
hsr_once = rows-once hsr_enum.parts OfHsr.table.rows tt

ipoib_once : FailsOnce OfIpoib.attributes.looks
unfolding OfIpoib.attributes
ipoib_once = rows-once ipoib_enum.parts OfIpoib.table.rows tt

mac_sec_once : FailsOnce OfMacSec.attributes.looks
unfolding OfMacSec.attributes
mac_sec_once = rows-once mac_sec_enum.parts OfMacSec.table.rows tt

gtp_once : FailsOnce OfGtp.attributes.looks
unfolding OfGtp.attributes
gtp_once = rows-once gtp_enum.parts OfGtp.table.rows tt

ovpn_once : FailsOnce OfOvpn.attributes.looks
unfolding OfOvpn.attributes
ovpn_once = rows-once ovpn_enum.parts OfOvpn.table.rows tt

-- an address takes no look
target_once : (size : ℕ) → FailsOnce (target_reading size).looks
target_once size x old new t = omega (arith, ap (λ (c : Counts). c.failed) t)

-- ---- and those with

bridge_once : FailsOnce OfBridge.attributes.looks
unfolding OfBridge.attributes
bridge_once = rows-once bridge_enum.parts OfBridge.table.rows (list-once OfQuerier.attributes querier_once, tt)

vlan_once : FailsOnce OfVlan.attributes.looks
unfolding OfVlan.attributes
vlan_once = rows-once vlan_enum.parts OfVlan.table.rows (list-once OfQos.attributes qos_once, (list-once OfQos.attributes qos_once, tt))

peer_once : FailsOnce (value_looking OfPeer.family header default_header)
unfolding MessageLooks
peer_once bytes old new (inl (short, p)) = omega (arith, ap (λ (c : Counts). c.failed) p)
peer_once bytes old new (inr (front, rest, is, size, t)) = list-once OfPeer.attributes peer_attribute_once rest old new t

veth_once : FailsOnce OfVeth.attributes.looks
unfolding OfVeth.attributes
veth_once = rows-once veth_enum.parts OfVeth.table.rows (peer_once, tt)

mac_vlan_once : FailsOnce OfMacVlan.attributes.looks
unfolding OfMacVlan.attributes
mac_vlan_once = rows-once mac_vlan_enum.parts OfMacVlan.table.rows (list-once OfMacVlanAddress.attributes mac_vlan_address_once, tt)

bond_once : FailsOnce OfBond.attributes.looks
unfolding OfBond.attributes
bond_once =
    rows-once bond_enum.parts OfBond.table.rows
    (list-once (target_reading 4) (target_once 4), (list-once OfAdInfo.attributes ad_info_once, (list-once (target_reading 16) (target_once 16), tt)))

flags_once : (kind : Option Kind) → FailsOnce (OfIpTunnel.reading kind).looks
flags_once (Some ipip) = rows-once OfIpTunnel.later (OfIpTunnel.rows ipip).0 tt
flags_once (Some sit) = rows-once OfIpTunnel.later (OfIpTunnel.rows sit).0 tt
flags_once (Some ip6tnl) = rows-once OfIpTunnel.later (OfIpTunnel.rows ip6tnl).0 tt
flags_once None = rows-once OfIpTunnel.flat OfIpTunnel.flat_rows.0 tt

ip_tunnel_once : (form : InfoForm) → FailsOnce (OfIpTunnel.attributes form).looks
unfolding OfIpTunnel.attributes
ip_tunnel_once form = flags_once (kind_of form)

netkit_once : FailsOnce OfNetkit.attributes.looks
unfolding OfNetkit.attributes
netkit_once = rows-once netkit_enum.parts OfNetkit.table.rows (peer_once, tt)

-- ---- data

data_once : (form : InfoForm) → InsideOnce (info_data form).members.looks
data_once InfoForm.Bridge = list-once OfBridge.attributes bridge_once
data_once InfoForm.Tun = list-once OfTun.attributes tun_once
data_once InfoForm.Vlan = list-once OfVlan.attributes vlan_once
data_once InfoForm.Veth = list-once OfVeth.attributes veth_once
data_once InfoForm.Vxlan = list-once OfVxlan.attributes vxlan_once
data_once InfoForm.Bond = list-once OfBond.attributes bond_once
data_once InfoForm.IpVlan = list-once OfIpVlan.attributes ip_vlan_once
data_once InfoForm.IpVtap = list-once OfIpVlan.attributes ip_vlan_once
data_once InfoForm.MacVlan = list-once OfMacVlan.attributes mac_vlan_once
data_once InfoForm.MacVtap = list-once OfMacVlan.attributes mac_vlan_once
data_once InfoForm.GreTap = list-once OfGre.attributes gre_once
data_once InfoForm.GreTap6 = list-once OfGre6.attributes gre6_once
data_once InfoForm.IpIp = list-once (OfIpTunnel.attributes InfoForm.IpIp) (ip_tunnel_once InfoForm.IpIp)
data_once InfoForm.Ip6Tnl = list-once (OfIpTunnel.attributes InfoForm.Ip6Tnl) (ip_tunnel_once InfoForm.Ip6Tnl)
data_once InfoForm.SitTun = list-once (OfIpTunnel.attributes InfoForm.SitTun) (ip_tunnel_once InfoForm.SitTun)
data_once InfoForm.GreTun = list-once OfGre.attributes gre_once
data_once InfoForm.GreTun6 = list-once OfGre6.attributes gre6_once
data_once InfoForm.Vti = list-once OfVti.attributes vti_once
data_once InfoForm.Vti6 = list-once OfVti.attributes vti_once
data_once InfoForm.Vrf = list-once OfVrf.attributes vrf_once
data_once InfoForm.Xfrm = list-once OfXfrm.attributes xfrm_once
data_once InfoForm.Geneve = list-once OfGeneve.attributes geneve_once
data_once InfoForm.Netkit = list-once OfNetkit.attributes netkit_once
data_once InfoForm.Erspan = list-once OfGre.attributes gre_once
data_once InfoForm.Erspan6 = list-once OfGre6.attributes gre6_once
data_once InfoForm.Vxcan = list-once OfVeth.attributes veth_once
data_once InfoForm.Hsr = list-once OfHsr.attributes hsr_once
data_once InfoForm.Ipoib = list-once OfIpoib.attributes ipoib_once
data_once InfoForm.MacSec = list-once OfMacSec.attributes mac_sec_once
data_once InfoForm.Gtp = list-once OfGtp.attributes gtp_once
data_once InfoForm.Ovpn = list-once OfOvpn.attributes ovpn_once
data_once InfoForm.Kept = tt

port_data_once : (form : InfoPortForm) → InsideOnce (port_data form).members.looks
port_data_once InfoPortForm.Bridge = list-once OfBridgePort.attributes bridge_port_once
port_data_once InfoPortForm.Vrf = list-once OfVrf.attributes vrf_once
port_data_once InfoPortForm.Bond = list-once OfBondPort.attributes bond_port_once
port_data_once InfoPortForm.Kept = tt

pub info_once : (forms : Forms) → FailsOnce (OfInfo.attributes forms).looks
info_once forms =
    rows-once info_enum.parts (OfInfo.table forms).rows
    (once_then (info_data forms.0).members.looks _ (data_once forms.0) (once_then (port_data forms.1).members.looks _ (port_data_once forms.1) tt))
