use mir.Syntax.{w32}
use Rattle.npr_link_statistics.proofs.Arrays.{signed_array}
use Rattle.npr_link_statistics.proofs.inet6_devconf.Inet6DevConf.of.Goals as goal
use Rattle.npr_link_statistics.specs.Names.{inet6_devconf}

pub returns : goal.returns
unfolding inet6_devconf
returns c = λ i. record { fields = signed_array w32 60 c.args.fields _ c.well_formed.0 i; missing = c.args.missing; more = c.args.more.items }
