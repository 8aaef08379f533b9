use Rattle.npr_link_functions.proofs.ValueEquality.{vf_link_state_equality, mac_equality, broadcast_equality, vlan_equality, tx_rate_equality, rate_equality}
use Rattle.npr_link_functions.proofs.ValueEquality.{setting_equality, link_state_of_equality, guid_equality, vlan_info_equality}
use Rattle.npr_link_functions.proofs.laws.law_equality.Goals as goal

pub returns : goal.returns
returns c = record {
  state = vf_link_state_equality;
  mac = mac_equality;
  broadcast = broadcast_equality;
  vlan = vlan_equality;
  tx_rate = tx_rate_equality;
  rate = rate_equality;
  setting = setting_equality;
  link_state_of = link_state_of_equality;
  guid = guid_equality;
  vlan_info = vlan_info_equality;
}
