use mir.Syntax.{w64}
use Rattle.npr_link_statistics.proofs.Arrays.{signed_array}
use Rattle.npr_link_statistics.proofs.inet6_stats.Inet6Stats.of.Goals as goal
use Rattle.npr_link_statistics.specs.Names.{inet6_stats}

pub returns : goal.returns
unfolding inet6_stats
returns c = λ i. record { fields = signed_array w64 38 c.args.fields _ c.well_formed.0 i; missing = c.args.missing; more = c.args.more.items }
