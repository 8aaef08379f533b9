use mir.Syntax.{w64}
use Rattle.npr_link_statistics.proofs.Arrays.{unsigned_array}
use Rattle.npr_link_statistics.proofs.stats64.Stats64.of.Goals as goal
use Rattle.npr_link_statistics.specs.Names.{stats64}

pub returns : goal.returns
unfolding stats64
returns c = λ i. record { fields = unsigned_array w64 25 c.args.fields _ c.well_formed.0 i; missing = c.args.missing; more = c.args.more.items }
