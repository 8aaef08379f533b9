-- The data of a link, by what governs them (linux/if_link.h, IFLA_INFO_DATA): a list of a family, or bytes as they stand.
use Rattle.std.specs.Prelude.{ℕ, List, map}
use Rattle.std.proofs.Common.{refl}
use Rattle.npr_base.specs.Codec.{Codec}
use Rattle.npr_base.specs.declared.attribute_set.AttributeSet.TheVariants as At
use Rattle.npr_link.specs.Netkit as OfNetkit
use Rattle.npr_link.specs.Veth as OfVeth
use Rattle.npr_link.specs.Vlan as OfVlan
use Rattle.npr_link.specs.Vrf as OfVrf
use Rattle.npr_link_bridge.specs.Bridge as OfBridge
use Rattle.npr_link_devices.specs.Bond as OfBond
use Rattle.npr_link_devices.specs.IpVlan as OfIpVlan
use Rattle.npr_link_devices.specs.MacVlan as OfMacVlan
use Rattle.npr_link_devices.specs.Tun as OfTun
use Rattle.npr_link_tunnels.specs.Geneve as OfGeneve
use Rattle.npr_link_tunnels.specs.Gre as OfGre
use Rattle.npr_link_tunnels.specs.Gre6 as OfGre6
use Rattle.npr_link_tunnels.specs.IpTunnel as OfIpTunnel
use Rattle.npr_link_tunnels.specs.Vti as OfVti
use Rattle.npr_link_tunnels.specs.Vxlan as OfVxlan
use Rattle.npr_link_tunnels.specs.Xfrm as OfXfrm
use Rattle.npr_link_devices.specs.Hsr as OfHsr
use Rattle.npr_link_devices.specs.Ipoib as OfIpoib
use Rattle.npr_link_devices.specs.MacSec as OfMacSec
use Rattle.npr_link_tunnels.specs.Gtp as OfGtp
use Rattle.npr_link_tunnels.specs.Ovpn as OfOvpn
use Rattle.npr_base.specs.Choices.{Held, as_list, as_bytes, Case, list_case, bytes_case, chosen}
use Rattle.npr_link.specs.declared.info_data.InfoData.{InfoData}
use Rattle.npr_link.specs.declared.info_data.InfoData.TheVariants as Has
use Rattle.npr_link_tunnels.specs.declared.form.InfoForm.{InfoForm}
use Rattle.npr_link_tunnels.specs.declared.form.InfoForm.TheVariants as InfoForm

-- data, without where they lie in memory
pub data Data : Type 0 where
  bridge : List OfBridge.family.Meaning → Data
  tun : List OfTun.family.Meaning → Data
  vlan : List OfVlan.family.Meaning → Data
  veth : List OfVeth.family.Meaning → Data
  vxlan : List OfVxlan.family.Meaning → Data
  bond : List OfBond.family.Meaning → Data
  ip_vlan : List OfIpVlan.family.Meaning → Data
  ip_vtap : List OfIpVlan.family.Meaning → Data
  mac_vlan : List OfMacVlan.family.Meaning → Data
  mac_vtap : List OfMacVlan.family.Meaning → Data
  gre_tap : List OfGre.family.Meaning → Data
  gre_tap6 : List OfGre6.family.Meaning → Data
  ip_tunnel : List OfIpTunnel.family.Meaning → Data
  gre_tun : List OfGre.family.Meaning → Data
  gre_tun6 : List OfGre6.family.Meaning → Data
  vti : List OfVti.family.Meaning → Data
  vrf : List OfVrf.family.Meaning → Data
  xfrm : List OfXfrm.family.Meaning → Data
  geneve : List OfGeneve.family.Meaning → Data
  netkit : List OfNetkit.family.Meaning → Data
  erspan : List OfGre.family.Meaning → Data
  erspan6 : List OfGre6.family.Meaning → Data
  vxcan : List OfVeth.family.Meaning → Data
  hsr : List OfHsr.family.Meaning → Data
  ipoib : List OfIpoib.family.Meaning → Data
  mac_sec : List OfMacSec.family.Meaning → Data
  gtp : List OfGtp.family.Meaning → Data
  ovpn : List OfOvpn.family.Meaning → Data
  other : List ℕ → Data

abbrev pub info_data_of : InfoData → Data
info_data_of (Has.Bridge xs) = bridge (map OfBridge.family.meaning xs.items)
info_data_of (Has.Tun xs) = tun (map OfTun.family.meaning xs.items)
info_data_of (Has.Vlan xs) = vlan (map OfVlan.family.meaning xs.items)
info_data_of (Has.Veth xs) = veth (map OfVeth.family.meaning xs.items)
info_data_of (Has.Vxlan xs) = vxlan (map OfVxlan.family.meaning xs.items)
info_data_of (Has.Bond xs) = bond (map OfBond.family.meaning xs.items)
info_data_of (Has.IpVlan xs) = ip_vlan (map OfIpVlan.family.meaning xs.items)
info_data_of (Has.IpVtap xs) = ip_vtap (map OfIpVlan.family.meaning xs.items)
info_data_of (Has.MacVlan xs) = mac_vlan (map OfMacVlan.family.meaning xs.items)
info_data_of (Has.MacVtap xs) = mac_vtap (map OfMacVlan.family.meaning xs.items)
info_data_of (Has.GreTap xs) = gre_tap (map OfGre.family.meaning xs.items)
info_data_of (Has.GreTap6 xs) = gre_tap6 (map OfGre6.family.meaning xs.items)
info_data_of (Has.IpTunnel xs) = ip_tunnel (map OfIpTunnel.family.meaning xs.items)
info_data_of (Has.GreTun xs) = gre_tun (map OfGre.family.meaning xs.items)
info_data_of (Has.GreTun6 xs) = gre_tun6 (map OfGre6.family.meaning xs.items)
info_data_of (Has.Vti xs) = vti (map OfVti.family.meaning xs.items)
info_data_of (Has.Vrf xs) = vrf (map OfVrf.family.meaning xs.items)
info_data_of (Has.Xfrm xs) = xfrm (map OfXfrm.family.meaning xs.items)
info_data_of (Has.Geneve xs) = geneve (map OfGeneve.family.meaning xs.items)
info_data_of (Has.Netkit xs) = netkit (map OfNetkit.family.meaning xs.items)
info_data_of (Has.Erspan xs) = erspan (map OfGre.family.meaning xs.items)
info_data_of (Has.Erspan6 xs) = erspan6 (map OfGre6.family.meaning xs.items)
info_data_of (Has.Vxcan xs) = vxcan (map OfVeth.family.meaning xs.items)
info_data_of (Has.Hsr xs) = hsr (map OfHsr.family.meaning xs.items)
info_data_of (Has.Ipoib xs) = ipoib (map OfIpoib.family.meaning xs.items)
info_data_of (Has.MacSec xs) = mac_sec (map OfMacSec.family.meaning xs.items)
info_data_of (Has.Gtp xs) = gtp (map OfGtp.family.meaning xs.items)
info_data_of (Has.Ovpn xs) = ovpn (map OfOvpn.family.meaning xs.items)
info_data_of (Has.Other bytes) = other bytes.items

-- how they are written, whatever governs
abbrev pub held : Data → Held
held (bridge xs) = as_list At.InfoBridge OfBridge.attributes xs
held (tun xs) = as_list At.InfoTun OfTun.attributes xs
held (vlan xs) = as_list At.InfoVlan OfVlan.attributes xs
held (veth xs) = as_list At.InfoVeth OfVeth.attributes xs
held (vxlan xs) = as_list At.InfoVxlan OfVxlan.attributes xs
held (bond xs) = as_list At.InfoBond OfBond.attributes xs
held (ip_vlan xs) = as_list At.InfoIpVlan OfIpVlan.attributes xs
held (ip_vtap xs) = as_list At.InfoIpVlan OfIpVlan.attributes xs
held (mac_vlan xs) = as_list At.InfoMacVlan OfMacVlan.attributes xs
held (mac_vtap xs) = as_list At.InfoMacVlan OfMacVlan.attributes xs
held (gre_tap xs) = as_list At.InfoGre OfGre.attributes xs
held (gre_tap6 xs) = as_list At.InfoGre6 OfGre6.attributes xs
held (ip_tunnel xs) = as_list At.InfoIpTunnel (OfIpTunnel.attributes InfoForm.IpIp) xs
held (gre_tun xs) = as_list At.InfoGre OfGre.attributes xs
held (gre_tun6 xs) = as_list At.InfoGre6 OfGre6.attributes xs
held (vti xs) = as_list At.InfoVti OfVti.attributes xs
held (vrf xs) = as_list At.InfoVrf OfVrf.attributes xs
held (xfrm xs) = as_list At.InfoXfrm OfXfrm.attributes xs
held (geneve xs) = as_list At.InfoGeneve OfGeneve.attributes xs
held (netkit xs) = as_list At.InfoNetkit OfNetkit.attributes xs
held (erspan xs) = as_list At.InfoGre OfGre.attributes xs
held (erspan6 xs) = as_list At.InfoGre6 OfGre6.attributes xs
held (vxcan xs) = as_list At.InfoVeth OfVeth.attributes xs
held (hsr xs) = as_list At.InfoHsr OfHsr.attributes xs
held (ipoib xs) = as_list At.InfoIpoib OfIpoib.attributes xs
held (mac_sec xs) = as_list At.InfoMacSec OfMacSec.attributes xs
held (gtp xs) = as_list At.InfoGtp OfGtp.attributes xs
held (ovpn xs) = as_list At.InfoOvpn OfOvpn.attributes xs
held (other bytes) = as_bytes bytes

-- and read
abbrev pub case : InfoForm → Case held
case InfoForm.Bridge = list_case held At.InfoBridge OfBridge.attributes bridge (λ xs. refl)
case InfoForm.Tun = list_case held At.InfoTun OfTun.attributes tun (λ xs. refl)
case InfoForm.Vlan = list_case held At.InfoVlan OfVlan.attributes vlan (λ xs. refl)
case InfoForm.Veth = list_case held At.InfoVeth OfVeth.attributes veth (λ xs. refl)
case InfoForm.Vxlan = list_case held At.InfoVxlan OfVxlan.attributes vxlan (λ xs. refl)
case InfoForm.Bond = list_case held At.InfoBond OfBond.attributes bond (λ xs. refl)
case InfoForm.IpVlan = list_case held At.InfoIpVlan OfIpVlan.attributes ip_vlan (λ xs. refl)
case InfoForm.IpVtap = list_case held At.InfoIpVlan OfIpVlan.attributes ip_vtap (λ xs. refl)
case InfoForm.MacVlan = list_case held At.InfoMacVlan OfMacVlan.attributes mac_vlan (λ xs. refl)
case InfoForm.MacVtap = list_case held At.InfoMacVlan OfMacVlan.attributes mac_vtap (λ xs. refl)
case InfoForm.GreTap = list_case held At.InfoGre OfGre.attributes gre_tap (λ xs. refl)
case InfoForm.GreTap6 = list_case held At.InfoGre6 OfGre6.attributes gre_tap6 (λ xs. refl)
case InfoForm.IpIp = list_case held At.InfoIpTunnel (OfIpTunnel.attributes InfoForm.IpIp) ip_tunnel (λ xs. refl)
case InfoForm.Ip6Tnl = list_case held At.InfoIpTunnel (OfIpTunnel.attributes InfoForm.Ip6Tnl) ip_tunnel (λ xs. refl)
case InfoForm.SitTun = list_case held At.InfoIpTunnel (OfIpTunnel.attributes InfoForm.SitTun) ip_tunnel (λ xs. refl)
case InfoForm.GreTun = list_case held At.InfoGre OfGre.attributes gre_tun (λ xs. refl)
case InfoForm.GreTun6 = list_case held At.InfoGre6 OfGre6.attributes gre_tun6 (λ xs. refl)
case InfoForm.Vti = list_case held At.InfoVti OfVti.attributes vti (λ xs. refl)
case InfoForm.Vti6 = list_case held At.InfoVti OfVti.attributes vti (λ xs. refl)
case InfoForm.Vrf = list_case held At.InfoVrf OfVrf.attributes vrf (λ xs. refl)
case InfoForm.Xfrm = list_case held At.InfoXfrm OfXfrm.attributes xfrm (λ xs. refl)
case InfoForm.Geneve = list_case held At.InfoGeneve OfGeneve.attributes geneve (λ xs. refl)
case InfoForm.Netkit = list_case held At.InfoNetkit OfNetkit.attributes netkit (λ xs. refl)
case InfoForm.Erspan = list_case held At.InfoGre OfGre.attributes erspan (λ xs. refl)
case InfoForm.Erspan6 = list_case held At.InfoGre6 OfGre6.attributes erspan6 (λ xs. refl)
case InfoForm.Vxcan = list_case held At.InfoVeth OfVeth.attributes vxcan (λ xs. refl)
case InfoForm.Hsr = list_case held At.InfoHsr OfHsr.attributes hsr (λ xs. refl)
case InfoForm.Ipoib = list_case held At.InfoIpoib OfIpoib.attributes ipoib (λ xs. refl)
case InfoForm.MacSec = list_case held At.InfoMacSec OfMacSec.attributes mac_sec (λ xs. refl)
case InfoForm.Gtp = list_case held At.InfoGtp OfGtp.attributes gtp (λ xs. refl)
case InfoForm.Ovpn = list_case held At.InfoOvpn OfOvpn.attributes ovpn (λ xs. refl)
case InfoForm.Kept = bytes_case held other (λ bytes. refl)

abbrev pub info_data : InfoForm → Codec Data
info_data form = chosen held (case form)
