use Rattle.npr_stats.proofs.EqualityLaws.{header_equality, header_buffer_equality, bridge_vlan_xstats_equality, bridge_stp_xstats_equality}
use Rattle.npr_stats.proofs.EqualityLaws.{hw_stats64_equality, mpls_link_stats_equality}
use Rattle.npr_stats.proofs.laws.law_equality.Goals as goal

pub returns : goal.returns
returns c = record {
  header = header_equality;
  header_buffer = header_buffer_equality;
  bridge_vlan_xstats = bridge_vlan_xstats_equality;
  bridge_stp_xstats = bridge_stp_xstats_equality;
  hw_stats64 = hw_stats64_equality;
  mpls_link_stats = mpls_link_stats_equality;
}
