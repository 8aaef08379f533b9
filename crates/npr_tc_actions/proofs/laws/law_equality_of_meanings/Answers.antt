use Rattle.npr_tc_actions.proofs.EncEquality.{enc_option_equality, enc_geneve_equality, enc_vxlan_equality, enc_erspan_equality}
use Rattle.npr_tc_actions.proofs.EncEquality.{enc_gtp_equality, enc_pfcp_equality}
use Rattle.npr_tc_actions.proofs.EqualityLaws.{mirror_option_equality, nat_option_equality, tunnel_key_option_equality, option_equality}
use Rattle.npr_tc_actions.proofs.EqualityLaws.{attribute_equality, action_equality}
use Rattle.npr_tc_actions.proofs.KindEquality.{gact_option_equality, police_option_equality, vlan_option_equality, skbedit_option_equality}
use Rattle.npr_tc_actions.proofs.KindEquality.{csum_option_equality, ct_option_equality, sample_option_equality, bpf_option_equality}
use Rattle.npr_tc_actions.proofs.PeditEquality.{pedit_selector_equality, pedit_key_ex_equality, pedit_keys_ex_equality, pedit_option_equality}
use Rattle.npr_tc_actions.proofs.laws.law_equality_of_meanings.Goals as goal

pub returns : goal.returns
returns c = record {
  mirror_option = mirror_option_equality;
  nat_option = nat_option_equality;
  enc_geneve = enc_geneve_equality;
  enc_vxlan = enc_vxlan_equality;
  enc_erspan = enc_erspan_equality;
  enc_gtp = enc_gtp_equality;
  enc_pfcp = enc_pfcp_equality;
  enc_option = enc_option_equality;
  tunnel_key_option = tunnel_key_option_equality;
  gact_option = gact_option_equality;
  police_option = police_option_equality;
  vlan_option = vlan_option_equality;
  skbedit_option = skbedit_option_equality;
  csum_option = csum_option_equality;
  ct_option = ct_option_equality;
  sample_option = sample_option_equality;
  bpf_option = bpf_option_equality;
  pedit_selector = pedit_selector_equality;
  pedit_key_ex = pedit_key_ex_equality;
  pedit_keys_ex = pedit_keys_ex_equality;
  pedit_option = pedit_option_equality;
  option = option_equality;
  attribute = attribute_equality;
  action = action_equality;
}
