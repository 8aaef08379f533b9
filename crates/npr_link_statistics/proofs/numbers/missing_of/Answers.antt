use Rattle.std.proofs.Common.{arith}
use Rattle.npr_link_statistics.proofs.Places.{numbers-count}
use Rattle.npr_link_statistics.proofs.numbers.missing_of.Goals as goal

pub returns : goal.returns
returns g c = omega (arith, c.saturating_sub.ensures, numbers-count g.T.Block.width c.args.bytes.now c.size.result c.size.ensures)
