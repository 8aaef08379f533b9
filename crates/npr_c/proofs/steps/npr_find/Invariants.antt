use Rattle.std.proofs.Common.{◌-◌, length}
use Rattle.npr_c.specs.Steps.{Others}
use Rattle.npr_c.proofs.steps.npr_find.Given as goal

abbrev pub invariant-attributes : goal.invariant-attributes
invariant-attributes l = Others l.bytes l.fn.at l.number l.at

abbrev pub decreases-attributes : goal.decreases-attributes
decreases-attributes l = length l.bytes - l.at
