-- What a bridge counted of multicast (linux/if_bridge.h, struct br_mcast_stats): thirty numbers of eight bytes. An array of two
-- is what was received, and what was sent.
use Rattle.std.specs.Prelude.{ℕ, [], ◌∷◌}
use Rattle.npr_link_statistics.specs.Grown.{Names}
use Rattle.npr_stats.specs.declared.bridge_multicast_stats.BridgeMulticastStats.{BridgeMulticastStats}

-- in this order
unfoldable pub bridge_multicast_stats : Names BridgeMulticastStats ℕ
bridge_multicast_stats = record {
  fields =
      BridgeMulticastStats.igmp_v1queries_rx ∷ BridgeMulticastStats.igmp_v1queries_tx ∷ BridgeMulticastStats.igmp_v2queries_rx ∷
      BridgeMulticastStats.igmp_v2queries_tx ∷ BridgeMulticastStats.igmp_v3queries_rx ∷ BridgeMulticastStats.igmp_v3queries_tx ∷
      BridgeMulticastStats.igmp_leaves_rx ∷ BridgeMulticastStats.igmp_leaves_tx ∷ BridgeMulticastStats.igmp_v1reports_rx ∷
      BridgeMulticastStats.igmp_v1reports_tx ∷ BridgeMulticastStats.igmp_v2reports_rx ∷ BridgeMulticastStats.igmp_v2reports_tx ∷
      BridgeMulticastStats.igmp_v3reports_rx ∷ BridgeMulticastStats.igmp_v3reports_tx ∷ BridgeMulticastStats.igmp_parse_errors ∷
      BridgeMulticastStats.mld_v1queries_rx ∷ BridgeMulticastStats.mld_v1queries_tx ∷ BridgeMulticastStats.mld_v2queries_rx ∷
      BridgeMulticastStats.mld_v2queries_tx ∷ BridgeMulticastStats.mld_leaves_rx ∷ BridgeMulticastStats.mld_leaves_tx ∷
      BridgeMulticastStats.mld_v1reports_rx ∷ BridgeMulticastStats.mld_v1reports_tx ∷ BridgeMulticastStats.mld_v2reports_rx ∷
      BridgeMulticastStats.mld_v2reports_tx ∷ BridgeMulticastStats.mld_parse_errors ∷ BridgeMulticastStats.mcast_bytes_rx ∷
      BridgeMulticastStats.mcast_bytes_tx ∷ BridgeMulticastStats.mcast_packets_rx ∷ BridgeMulticastStats.mcast_packets_tx ∷ [];
  missing = BridgeMulticastStats.missing;
  more = λ x. x.more.items;
}
