use Rattle.npr_link_bridge.proofs.EqualityLaws.{bridge_flag_equality, bridge_mode_equality, router_type_equality, port_state_equality}
use Rattle.npr_link_bridge.proofs.EqualityLaws.{stp_state_equality, vlan_protocol_equality, boolean_option_flags_equality}
use Rattle.npr_link_bridge.proofs.EqualityLaws.{boolean_options_equality, bridge_id_equality, vlan_info_flags_equality, vlan_info_equality}
use Rattle.npr_link_bridge.proofs.laws.law_equality.Goals as goal

pub returns : goal.returns
returns c = record {
  bridge_flag = bridge_flag_equality;
  bridge_mode = bridge_mode_equality;
  router_type = router_type_equality;
  port_state = port_state_equality;
  stp_state = stp_state_equality;
  vlan_protocol = vlan_protocol_equality;
  boolean_option_flags = boolean_option_flags_equality;
  boolean_options = boolean_options_equality;
  bridge_id = bridge_id_equality;
  vlan_info_flags = vlan_info_flags_equality;
  vlan_info = vlan_info_equality;
}
