use Rattle.npr_tc_filters.proofs.EqualityLaws.{u32_selector_flags_equality, u32_option_flags_equality, u32_key_equality, u32_mark_equality}
use Rattle.npr_tc_filters.proofs.EqualityLaws.{ematch_header_equality, ematch_tree_header_equality}
use Rattle.npr_tc_filters.proofs.laws.law_equality.Goals as goal

pub returns : goal.returns
returns c = record {
  selector_flags = u32_selector_flags_equality;
  option_flags = u32_option_flags_equality;
  key = u32_key_equality;
  mark = u32_mark_equality;
  ematch_header = ematch_header_equality;
  ematch_tree_header = ematch_tree_header_equality;
}
