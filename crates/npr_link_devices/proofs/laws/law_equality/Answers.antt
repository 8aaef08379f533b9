use Rattle.npr_link_devices.proofs.ValueEquality.{bond_mode_equality, arp_validation_equality, arp_all_targets_equality, primary_reselect_equality}
use Rattle.npr_link_devices.proofs.ValueEquality.{fail_over_mac_equality, xmit_hash_policy_equality, all_port_active_equality, lacp_rate_equality}
use Rattle.npr_link_devices.proofs.ValueEquality.{bond_port_state_equality, mii_status_equality, mac_vlan_mode_equality, mac_vlan_address_mode_equality}
use Rattle.npr_link_devices.proofs.ValueEquality.{ip_vlan_mode_equality, tun_type_equality, mac_vlan_flags_equality, ip_vlan_flags_equality}
use Rattle.npr_link_devices.proofs.ValueEquality.{hsr_protocol_equality}
use Rattle.npr_link_devices.proofs.ValueEquality.{ipoib_mode_equality}
use Rattle.npr_link_devices.proofs.ValueEquality.{mac_sec_cipher_equality}
use Rattle.npr_link_devices.proofs.ValueEquality.{mac_sec_offload_equality}
use Rattle.npr_link_devices.proofs.ValueEquality.{mac_sec_validation_equality}
use Rattle.npr_link_devices.proofs.laws.law_equality.Goals as goal

pub returns : goal.returns
returns c = record {
  bond_mode = bond_mode_equality;
  arp_validation = arp_validation_equality;
  arp_all_targets = arp_all_targets_equality;
  primary_reselect = primary_reselect_equality;
  fail_over_mac = fail_over_mac_equality;
  xmit_hash_policy = xmit_hash_policy_equality;
  all_port_active = all_port_active_equality;
  lacp_rate = lacp_rate_equality;
  bond_port_state = bond_port_state_equality;
  mii_status = mii_status_equality;
  mac_vlan_mode = mac_vlan_mode_equality;
  mac_vlan_address_mode = mac_vlan_address_mode_equality;
  ip_vlan_mode = ip_vlan_mode_equality;
  tun_type = tun_type_equality;
  mac_vlan_flags = mac_vlan_flags_equality;
  ip_vlan_flags = ip_vlan_flags_equality;
  hsr_protocol = hsr_protocol_equality;
  ipoib_mode = ipoib_mode_equality;
  mac_sec_cipher = mac_sec_cipher_equality;
  mac_sec_offload = mac_sec_offload_equality;
  mac_sec_validate = mac_sec_validation_equality;
}
