use mir.Syntax.{w64}
use Rattle.npr_link_statistics.proofs.Arrays.{unsigned_array}
use Rattle.npr_stats.proofs.bridge_multicast_stats.BridgeMulticastStats.of.Goals as goal
use Rattle.npr_stats.specs.BridgeMulticastStats.{bridge_multicast_stats}

pub returns : goal.returns
unfolding bridge_multicast_stats
returns c = λ i. record { fields = unsigned_array w64 30 c.args.fields _ c.well_formed.0 i; missing = c.args.missing; more = c.args.more.items }
