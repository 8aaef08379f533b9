use mir.Syntax.{w32}
use Rattle.npr_link_statistics.proofs.Arrays.{unsigned_array}
use Rattle.npr_link_statistics.proofs.stats.Stats.of.Goals as goal
use Rattle.npr_link_statistics.specs.Names.{stats}

pub returns : goal.returns
unfolding stats
returns c = λ i. record { fields = unsigned_array w32 24 c.args.fields _ c.well_formed.0 i; missing = c.args.missing; more = c.args.more.items }
