use Rattle.std.proofs.Common.{length}
use Rattle.netlink_show.specs.Interfaces.{Nameless}
use Rattle.netlink_show.proofs.interfaces.first_name.Given as goal

abbrev pub invariant-attributes : goal.invariant-attributes
invariant-attributes l = Nameless l.attributes l.walk

abbrev pub decreases-attributes : goal.decreases-attributes
decreases-attributes l = length l.walk
