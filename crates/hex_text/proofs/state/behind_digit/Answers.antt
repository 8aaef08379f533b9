use Rattle.std.proofs.Common.{arith}
use Rattle.hex_text.proofs.States.{x-leads, pair-leads}
use Rattle.hex_text.proofs.state.behind_digit.Goals as goal

pub returns-then-is_x-clause-some : goal.returns-then-is_x-clause-some
returns-then-is_x-clause-some c = x-leads c.args.high c.args.byte (omega (arith, c.if-high-eq0.true)) cc

pub returns-in-Some-clause-some : goal.returns-in-Some-clause-some
returns-in-Some-clause-some c = pair-leads c.args.high c.args.byte c.in-Some.low cc
