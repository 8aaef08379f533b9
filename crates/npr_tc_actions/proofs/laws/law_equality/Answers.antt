use Rattle.npr_tc_actions.proofs.ValueEquality.{form_equality, action_type_equality, mirror_action_type_equality, nat_flags_equality, generic_equality}
use Rattle.npr_tc_actions.proofs.ValueEquality.{times_equality, mirror_equality, nat_equality, tunnel_key_equality}
use Rattle.npr_tc_actions.proofs.KindEquality.{vlan_action_type_equality, csum_flags_equality, ct_flags_equality, police_equality, vlan_equality}
use Rattle.npr_tc_actions.proofs.KindEquality.{csum_equality, gact_probability_equality, bpf_instruction_equality}
use Rattle.npr_tc_actions.proofs.PeditEquality.{pedit_header_type_equality, pedit_command_equality, pedit_key_equality}
use Rattle.npr_tc_actions.proofs.laws.law_equality.Goals as goal

pub returns : goal.returns
returns c = record {
  form = form_equality;
  action_type = action_type_equality;
  mirror_action_type = mirror_action_type_equality;
  nat_flags = nat_flags_equality;
  generic = generic_equality;
  times = times_equality;
  mirror = mirror_equality;
  nat = nat_equality;
  tunnel_key = tunnel_key_equality;
  vlan_action_type = vlan_action_type_equality;
  csum_flags = csum_flags_equality;
  ct_flags = ct_flags_equality;
  police = police_equality;
  vlan = vlan_equality;
  csum = csum_equality;
  gact_probability = gact_probability_equality;
  bpf_instruction = bpf_instruction_equality;
  pedit_header_type = pedit_header_type_equality;
  pedit_command = pedit_command_equality;
  pedit_key = pedit_key_equality;
}
