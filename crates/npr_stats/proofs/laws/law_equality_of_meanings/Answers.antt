use Rattle.npr_base.proofs.Messages.{message_equality}
use Rattle.npr_stats.proofs.EqualityLaws.{attribute_equality, link_xstats_equality, bridge_xstats_equality, bond_xstats_equality}
use Rattle.npr_stats.proofs.EqualityLaws.{bond_ad_stat_equality, offload_xstats_equality, offload_hw_info_equality, offload_hw_state_equality}
use Rattle.npr_stats.proofs.EqualityLaws.{af_spec_equality, mpls_stats_equality, header_equality}
use Rattle.npr_stats.proofs.EqualityLaws.{bridge_multicast_stats_equality}
use Rattle.npr_stats.specs.Message.{stats_messages}
use Rattle.npr_stats.proofs.laws.law_equality_of_meanings.Goals as goal

pub returns : goal.returns
returns c = record {
  attribute = attribute_equality;
  link_xstats = link_xstats_equality;
  bridge_xstats = bridge_xstats_equality;
  bond_xstats = bond_xstats_equality;
  bond_ad_stat = bond_ad_stat_equality;
  offload_xstats = offload_xstats_equality;
  offload_hw_info = offload_hw_info_equality;
  offload_hw_state = offload_hw_state_equality;
  af_spec = af_spec_equality;
  mpls_stats = mpls_stats_equality;
  bridge_multicast_stats = bridge_multicast_stats_equality;
  message = message_equality stats_messages header_equality attribute_equality;
}
