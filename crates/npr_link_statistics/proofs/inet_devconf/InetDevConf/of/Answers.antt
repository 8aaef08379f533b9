use mir.Syntax.{w32}
use Rattle.npr_link_statistics.proofs.Arrays.{signed_array}
use Rattle.npr_link_statistics.proofs.inet_devconf.InetDevConf.of.Goals as goal
use Rattle.npr_link_statistics.specs.Names.{inet_devconf}

pub returns : goal.returns
unfolding inet_devconf
returns c = λ i. record { fields = signed_array w32 33 c.args.fields _ c.well_formed.0 i; missing = c.args.missing; more = c.args.more.items }
