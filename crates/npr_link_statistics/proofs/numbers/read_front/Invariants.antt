use Rattle.std.proofs.Common.{◌≡◌, ◌++◌, drop}
use Rattle.npr_link_statistics.specs.Grown.{filled, numbers_in}
use Rattle.npr_link_statistics.proofs.numbers.read_front.Given as goal

abbrev pub invariant-loop-at : goal.invariant-loop-at
invariant-loop-at g l = l.fields ≡ filled g.T.Block.width.none l.at 0 (numbers_in g.T.Block.width l.bytes) ++ drop l.at l.fn.fields
