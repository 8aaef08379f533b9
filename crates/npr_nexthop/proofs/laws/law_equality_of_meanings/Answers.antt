use Rattle.npr_base.proofs.Messages.{message_equality}
use Rattle.npr_nexthop.specs.Message.{next_hops}
use Rattle.npr_nexthop.proofs.EqualityLaws.{attribute_equality, group_stats_entry_equality, group_stats_equality, header_equality, res_bucket_equality}
use Rattle.npr_nexthop.proofs.EqualityLaws.{res_group_equality}
use Rattle.npr_nexthop.proofs.laws.law_equality_of_meanings.Goals as goal

pub returns : goal.returns
returns c = record {
  res_group = res_group_equality;
  res_bucket = res_bucket_equality;
  group_stats_entry = group_stats_entry_equality;
  group_stats = group_stats_equality;
  attribute = attribute_equality;
  message = message_equality next_hops header_equality attribute_equality;
}
