use Rattle.npr_tc_filters.proofs.EqualityLaws.{u32_pcnt_equality, match_all_pcnt_equality, u32_selector_equality, u32_equality, match_all_equality}
use Rattle.npr_tc_filters.proofs.EqualityLaws.{fw_equality, bpf_equality, flower_mpls_lse_equality, flower_mpls_equality, flower_equality}
use Rattle.npr_tc_filters.proofs.EqualityLaws.{basic_pcnt_equality, ematch_equality, ematch_tree_equality, basic_equality, flower_cfm_equality}
use Rattle.npr_tc_filters.proofs.laws.law_equality_of_meanings.Goals as goal

pub returns : goal.returns
returns c = record {
  u32_pcnt = u32_pcnt_equality;
  match_all_pcnt = match_all_pcnt_equality;
  basic_pcnt = basic_pcnt_equality;
  selector = u32_selector_equality;
  u32 = u32_equality;
  match_all = match_all_equality;
  fw = fw_equality;
  bpf = bpf_equality;
  ematch = ematch_equality;
  ematch_tree = ematch_tree_equality;
  basic = basic_equality;
  flower_cfm = flower_cfm_equality;
  flower_mpls_lse = flower_mpls_lse_equality;
  flower_mpls = flower_mpls_equality;
  flower = flower_equality;
}
