use Rattle.std.proofs.Common.{arith}
use Rattle.hex_text.proofs.States.{hash-leads, blank-leads, digit-leads}
use Rattle.hex_text.proofs.state.behind_pairs.Goals as goal

pub returns-then-byte-eq35-clause-some : goal.returns-then-byte-eq35-clause-some
returns-then-byte-eq35-clause-some c = hash-leads c.args.byte (omega (arith, c.if-byte-eq35.true))

pub returns-then-is_blank-clause-some : goal.returns-then-is_blank-clause-some
returns-then-is_blank-clause-some c = blank-leads c.args.byte cc

pub returns-in-Some-clause-some : goal.returns-in-Some-clause-some
returns-in-Some-clause-some c = digit-leads c.args.byte c.in-Some.high cc
