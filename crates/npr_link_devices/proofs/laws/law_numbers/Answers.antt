use Rattle.npr_link_devices.specs.AllPortActive.{all_port_actives}
use Rattle.npr_link_devices.specs.ArpAllTargets.{arp_all_target_rules}
use Rattle.npr_link_devices.specs.ArpValidate.{arp_validations}
use Rattle.npr_link_devices.specs.BondMode.{bond_modes}
use Rattle.npr_link_devices.specs.BondPortState.{bond_port_states}
use Rattle.npr_link_devices.specs.FailOverMac.{fail_over_macs}
use Rattle.npr_link_devices.specs.IpVlanMode.{ip_vlan_modes}
use Rattle.npr_link_devices.specs.LacpRate.{lacp_rates}
use Rattle.npr_link_devices.specs.MacVlanAddressMode.{mac_vlan_address_modes}
use Rattle.npr_link_devices.specs.MacVlanMode.{mac_vlan_modes}
use Rattle.npr_link_devices.specs.MiiStatus.{mii_statuses}
use Rattle.npr_link_devices.specs.PrimaryReselect.{primary_reselects}
use Rattle.npr_link_devices.specs.TunType.{tun_types}
use Rattle.npr_link_devices.specs.XmitHashPolicy.{xmit_hash_policies}
use Rattle.npr_link_devices.specs.HsrProtocol.{hsr_protocols}
use Rattle.npr_link_devices.specs.IpoibMode.{ipoib_modes}
use Rattle.npr_link_devices.specs.MacSecCipher.{mac_sec_ciphers}
use Rattle.npr_link_devices.specs.MacSecOffload.{mac_sec_offloads}
use Rattle.npr_link_devices.specs.MacSecValidate.{mac_sec_validations}
use Rattle.npr_link_devices.proofs.laws.law_numbers.Goals as goal

pub returns : goal.returns
returns c = record {
  bond_modes = bond_modes.back;
  arp_validations = arp_validations.back;
  arp_all_target_rules = arp_all_target_rules.back;
  primary_reselects = primary_reselects.back;
  fail_over_macs = fail_over_macs.back;
  xmit_hash_policies = xmit_hash_policies.back;
  all_port_actives = all_port_actives.back;
  lacp_rates = lacp_rates.back;
  bond_port_states = bond_port_states.back;
  mii_statuses = mii_statuses.back;
  mac_vlan_modes = mac_vlan_modes.back;
  mac_vlan_address_modes = mac_vlan_address_modes.back;
  ip_vlan_modes = ip_vlan_modes.back;
  tun_types = tun_types.back;
  hsr_protocols = hsr_protocols.back;
  ipoib_modes = ipoib_modes.back;
  mac_sec_ciphers = mac_sec_ciphers.back;
  mac_sec_offloads = mac_sec_offloads.back;
  mac_sec_validations = mac_sec_validations.back;
}
