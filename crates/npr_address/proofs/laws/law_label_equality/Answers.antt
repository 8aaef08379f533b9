use Rattle.npr_address.proofs.LabelEquality.{address_label_header_equality, address_label_buffer_equality, prefix_cache_info_equality, prefix_header_equality, prefix_buffer_equality}
use Rattle.npr_address.proofs.laws.law_label_equality.Goals as goal

pub returns : goal.returns
returns c = record {
  address_label_header = address_label_header_equality;
  address_label_buffer = address_label_buffer_equality;
  prefix_cache_info = prefix_cache_info_equality;
  prefix_header = prefix_header_equality;
  prefix_buffer = prefix_buffer_equality;
}
