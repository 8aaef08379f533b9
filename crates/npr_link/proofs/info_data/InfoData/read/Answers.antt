use Rattle.std.proofs.Common.{map, refl}
use Rattle.npr_link.specs.Netkit as OfNetkit
use Rattle.npr_link.specs.Veth as OfVeth
use Rattle.npr_link.specs.Vlan as OfVlan
use Rattle.npr_link.specs.Vrf as OfVrf
use Rattle.npr_link_bridge.specs.Bridge as OfBridge
use Rattle.npr_link_devices.specs.Bond as OfBond
use Rattle.npr_link_devices.specs.IpVlan as OfIpVlan
use Rattle.npr_link_devices.specs.MacVlan as OfMacVlan
use Rattle.npr_link_devices.specs.Tun as OfTun
use Rattle.npr_link_tunnels.specs.Geneve as OfGeneve
use Rattle.npr_link_tunnels.specs.Gre as OfGre
use Rattle.npr_link_tunnels.specs.Gre6 as OfGre6
use Rattle.npr_link_tunnels.specs.IpTunnel as OfIpTunnel
use Rattle.npr_link_tunnels.specs.Vti as OfVti
use Rattle.npr_link_tunnels.specs.Vxlan as OfVxlan
use Rattle.npr_link_tunnels.specs.Xfrm as OfXfrm
use Rattle.npr_link_devices.specs.Hsr as OfHsr
use Rattle.npr_link_devices.specs.Ipoib as OfIpoib
use Rattle.npr_link_devices.specs.MacSec as OfMacSec
use Rattle.npr_link_tunnels.specs.Gtp as OfGtp
use Rattle.npr_link_tunnels.specs.Ovpn as OfOvpn
use Rattle.npr_link.proofs.info_data.InfoData.read.Goals as goal

pub returns-in_ok-parse_list-in-Bridge-clause-ok : goal.returns-in_ok-parse_list-in-Bridge-clause-ok
returns-in_ok-parse_list-in-Bridge-clause-ok c =
    let read = c.in_ok-parse_list-in-Bridge in
    rw c.in-Bridge.is (map OfBridge.family.meaning read.field-0.items, read.ensures.ok, refl)

pub returns-in_ok-parse_list-in-Tun-clause-ok : goal.returns-in_ok-parse_list-in-Tun-clause-ok
returns-in_ok-parse_list-in-Tun-clause-ok c =
    let read = c.in_ok-parse_list-in-Tun in
    rw c.in-Tun.is (map OfTun.family.meaning read.field-0.items, read.ensures.ok, refl)

pub returns-in_ok-parse_list-in-Vlan-clause-ok : goal.returns-in_ok-parse_list-in-Vlan-clause-ok
returns-in_ok-parse_list-in-Vlan-clause-ok c =
    let read = c.in_ok-parse_list-in-Vlan in
    rw c.in-Vlan.is (map OfVlan.family.meaning read.field-0.items, read.ensures.ok, refl)

pub returns-in_ok-parse_list-in-Veth-clause-ok : goal.returns-in_ok-parse_list-in-Veth-clause-ok
returns-in_ok-parse_list-in-Veth-clause-ok c =
    let read = c.in_ok-parse_list-in-Veth in
    rw c.in-Veth.is (map OfVeth.family.meaning read.field-0.items, read.ensures.ok, refl)

pub returns-in_ok-parse_list-in-Vxlan-clause-ok : goal.returns-in_ok-parse_list-in-Vxlan-clause-ok
returns-in_ok-parse_list-in-Vxlan-clause-ok c =
    let read = c.in_ok-parse_list-in-Vxlan in
    rw c.in-Vxlan.is (map OfVxlan.family.meaning read.field-0.items, read.ensures.ok, refl)

pub returns-in_ok-parse_list-in-Bond-clause-ok : goal.returns-in_ok-parse_list-in-Bond-clause-ok
returns-in_ok-parse_list-in-Bond-clause-ok c =
    let read = c.in_ok-parse_list-in-Bond in
    rw c.in-Bond.is (map OfBond.family.meaning read.field-0.items, read.ensures.ok, refl)

pub returns-in_ok-parse_list-in-IpVlan-clause-ok : goal.returns-in_ok-parse_list-in-IpVlan-clause-ok
returns-in_ok-parse_list-in-IpVlan-clause-ok c =
    let read = c.in_ok-parse_list-in-IpVlan in
    rw c.in-IpVlan.is (map OfIpVlan.family.meaning read.field-0.items, read.ensures.ok, refl)

pub returns-in_ok-parse_list-in-IpVtap-clause-ok : goal.returns-in_ok-parse_list-in-IpVtap-clause-ok
returns-in_ok-parse_list-in-IpVtap-clause-ok c =
    let read = c.in_ok-parse_list-in-IpVtap in
    rw c.in-IpVtap.is (map OfIpVlan.family.meaning read.field-0.items, read.ensures.ok, refl)

pub returns-in_ok-parse_list-in-MacVlan-clause-ok : goal.returns-in_ok-parse_list-in-MacVlan-clause-ok
returns-in_ok-parse_list-in-MacVlan-clause-ok c =
    let read = c.in_ok-parse_list-in-MacVlan in
    rw c.in-MacVlan.is (map OfMacVlan.family.meaning read.field-0.items, read.ensures.ok, refl)

pub returns-in_ok-parse_list-in-MacVtap-clause-ok : goal.returns-in_ok-parse_list-in-MacVtap-clause-ok
returns-in_ok-parse_list-in-MacVtap-clause-ok c =
    let read = c.in_ok-parse_list-in-MacVtap in
    rw c.in-MacVtap.is (map OfMacVlan.family.meaning read.field-0.items, read.ensures.ok, refl)

pub returns-in_ok-parse_list-in-GreTap-clause-ok : goal.returns-in_ok-parse_list-in-GreTap-clause-ok
returns-in_ok-parse_list-in-GreTap-clause-ok c =
    let read = c.in_ok-parse_list-in-GreTap in
    rw c.in-GreTap.is (map OfGre.family.meaning read.field-0.items, read.ensures.ok, refl)

pub returns-in_ok-parse_list-in-GreTap6-clause-ok : goal.returns-in_ok-parse_list-in-GreTap6-clause-ok
returns-in_ok-parse_list-in-GreTap6-clause-ok c =
    let read = c.in_ok-parse_list-in-GreTap6 in
    rw c.in-GreTap6.is (map OfGre6.family.meaning read.field-0.items, read.ensures.ok, refl)

pub returns-in_ok-parse_list-in-IpIp-clause-ok : goal.returns-in_ok-parse_list-in-IpIp-clause-ok
returns-in_ok-parse_list-in-IpIp-clause-ok c =
    let read = c.in_ok-parse_list-in-IpIp in
    rw c.in-IpIp.is (map OfIpTunnel.family.meaning read.field-0.items, read.ensures.ok, refl)

pub returns-in_ok-parse_list-in-Ip6Tnl-clause-ok : goal.returns-in_ok-parse_list-in-Ip6Tnl-clause-ok
returns-in_ok-parse_list-in-Ip6Tnl-clause-ok c =
    let read = c.in_ok-parse_list-in-Ip6Tnl in
    rw c.in-Ip6Tnl.is (map OfIpTunnel.family.meaning read.field-0.items, read.ensures.ok, refl)

pub returns-in_ok-parse_list-in-SitTun-clause-ok : goal.returns-in_ok-parse_list-in-SitTun-clause-ok
returns-in_ok-parse_list-in-SitTun-clause-ok c =
    let read = c.in_ok-parse_list-in-SitTun in
    rw c.in-SitTun.is (map OfIpTunnel.family.meaning read.field-0.items, read.ensures.ok, refl)

pub returns-in_ok-parse_list-in-GreTun-clause-ok : goal.returns-in_ok-parse_list-in-GreTun-clause-ok
returns-in_ok-parse_list-in-GreTun-clause-ok c =
    let read = c.in_ok-parse_list-in-GreTun in
    rw c.in-GreTun.is (map OfGre.family.meaning read.field-0.items, read.ensures.ok, refl)

pub returns-in_ok-parse_list-in-GreTun6-clause-ok : goal.returns-in_ok-parse_list-in-GreTun6-clause-ok
returns-in_ok-parse_list-in-GreTun6-clause-ok c =
    let read = c.in_ok-parse_list-in-GreTun6 in
    rw c.in-GreTun6.is (map OfGre6.family.meaning read.field-0.items, read.ensures.ok, refl)

pub returns-in_ok-parse_list-in-Vti-clause-ok : goal.returns-in_ok-parse_list-in-Vti-clause-ok
returns-in_ok-parse_list-in-Vti-clause-ok c =
    let read = c.in_ok-parse_list-in-Vti in
    rw c.in-Vti.is (map OfVti.family.meaning read.field-0.items, read.ensures.ok, refl)

pub returns-in_ok-parse_list-in-Vti6-clause-ok : goal.returns-in_ok-parse_list-in-Vti6-clause-ok
returns-in_ok-parse_list-in-Vti6-clause-ok c =
    let read = c.in_ok-parse_list-in-Vti6 in
    rw c.in-Vti6.is (map OfVti.family.meaning read.field-0.items, read.ensures.ok, refl)

pub returns-in_ok-parse_list-in-Vrf-clause-ok : goal.returns-in_ok-parse_list-in-Vrf-clause-ok
returns-in_ok-parse_list-in-Vrf-clause-ok c =
    let read = c.in_ok-parse_list-in-Vrf in
    rw c.in-Vrf.is (map OfVrf.family.meaning read.field-0.items, read.ensures.ok, refl)

pub returns-in_ok-parse_list-in-Xfrm-clause-ok : goal.returns-in_ok-parse_list-in-Xfrm-clause-ok
returns-in_ok-parse_list-in-Xfrm-clause-ok c =
    let read = c.in_ok-parse_list-in-Xfrm in
    rw c.in-Xfrm.is (map OfXfrm.family.meaning read.field-0.items, read.ensures.ok, refl)

pub returns-in_ok-parse_list-in-Geneve-clause-ok : goal.returns-in_ok-parse_list-in-Geneve-clause-ok
returns-in_ok-parse_list-in-Geneve-clause-ok c =
    let read = c.in_ok-parse_list-in-Geneve in
    rw c.in-Geneve.is (map OfGeneve.family.meaning read.field-0.items, read.ensures.ok, refl)

pub returns-in_ok-parse_list-in-Netkit-clause-ok : goal.returns-in_ok-parse_list-in-Netkit-clause-ok
returns-in_ok-parse_list-in-Netkit-clause-ok c =
    let read = c.in_ok-parse_list-in-Netkit in
    rw c.in-Netkit.is (map OfNetkit.family.meaning read.field-0.items, read.ensures.ok, refl)

pub returns-in_ok-read_bytes-in-Kept-clause-ok : goal.returns-in_ok-read_bytes-in-Kept-clause-ok
returns-in_ok-read_bytes-in-Kept-clause-ok c =
    let read = c.in_ok-read_bytes-in-Kept in
    rw c.in-Kept.is (read.field-0.items, read.ensures.ok, refl)

pub returns-in_ok-parse_list-in-Erspan-clause-ok : goal.returns-in_ok-parse_list-in-Erspan-clause-ok
returns-in_ok-parse_list-in-Erspan-clause-ok c =
    let read = c.in_ok-parse_list-in-Erspan in
    rw c.in-Erspan.is (map OfGre.family.meaning read.field-0.items, read.ensures.ok, refl)

pub returns-in_ok-parse_list-in-Erspan6-clause-ok : goal.returns-in_ok-parse_list-in-Erspan6-clause-ok
returns-in_ok-parse_list-in-Erspan6-clause-ok c =
    let read = c.in_ok-parse_list-in-Erspan6 in
    rw c.in-Erspan6.is (map OfGre6.family.meaning read.field-0.items, read.ensures.ok, refl)

pub returns-in_ok-parse_list-in-Vxcan-clause-ok : goal.returns-in_ok-parse_list-in-Vxcan-clause-ok
returns-in_ok-parse_list-in-Vxcan-clause-ok c =
    let read = c.in_ok-parse_list-in-Vxcan in
    rw c.in-Vxcan.is (map OfVeth.family.meaning read.field-0.items, read.ensures.ok, refl)

pub returns-in_ok-parse_list-in-Hsr-clause-ok : goal.returns-in_ok-parse_list-in-Hsr-clause-ok
returns-in_ok-parse_list-in-Hsr-clause-ok c =
    let read = c.in_ok-parse_list-in-Hsr in
    rw c.in-Hsr.is (map OfHsr.family.meaning read.field-0.items, read.ensures.ok, refl)

pub returns-in_ok-parse_list-in-Ipoib-clause-ok : goal.returns-in_ok-parse_list-in-Ipoib-clause-ok
returns-in_ok-parse_list-in-Ipoib-clause-ok c =
    let read = c.in_ok-parse_list-in-Ipoib in
    rw c.in-Ipoib.is (map OfIpoib.family.meaning read.field-0.items, read.ensures.ok, refl)

pub returns-in_ok-parse_list-in-MacSec-clause-ok : goal.returns-in_ok-parse_list-in-MacSec-clause-ok
returns-in_ok-parse_list-in-MacSec-clause-ok c =
    let read = c.in_ok-parse_list-in-MacSec in
    rw c.in-MacSec.is (map OfMacSec.family.meaning read.field-0.items, read.ensures.ok, refl)

pub returns-in_ok-parse_list-in-Gtp-clause-ok : goal.returns-in_ok-parse_list-in-Gtp-clause-ok
returns-in_ok-parse_list-in-Gtp-clause-ok c =
    let read = c.in_ok-parse_list-in-Gtp in
    rw c.in-Gtp.is (map OfGtp.family.meaning read.field-0.items, read.ensures.ok, refl)

pub returns-in_ok-parse_list-in-Ovpn-clause-ok : goal.returns-in_ok-parse_list-in-Ovpn-clause-ok
returns-in_ok-parse_list-in-Ovpn-clause-ok c =
    let read = c.in_ok-parse_list-in-Ovpn in
    rw c.in-Ovpn.is (map OfOvpn.family.meaning read.field-0.items, read.ensures.ok, refl)
