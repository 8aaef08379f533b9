use Rattle.npr_link_devices.proofs.EqualityLaws.{ip_vlan_equality, tun_equality, mac_vlan_address_equality, mac_vlan_equality, ad_info_equality}
use Rattle.npr_link_devices.proofs.EqualityLaws.{bond_port_equality, bond_equality}
use Rattle.npr_link_devices.proofs.EqualityLaws.{hsr_equality}
use Rattle.npr_link_devices.proofs.EqualityLaws.{ipoib_equality}
use Rattle.npr_link_devices.proofs.EqualityLaws.{mac_sec_equality}
use Rattle.npr_link_devices.proofs.laws.law_equality_of_meanings.Goals as goal

pub returns : goal.returns
returns c = record {
  ip_vlan = ip_vlan_equality;
  tun = tun_equality;
  mac_vlan_address = mac_vlan_address_equality;
  mac_vlan = mac_vlan_equality;
  ad_info = ad_info_equality;
  bond_port = bond_port_equality;
  bond = bond_equality;
  hsr = hsr_equality;
  ipoib = ipoib_equality;
  mac_sec = mac_sec_equality;
}
