use Rattle.std.proofs.Common.{arith}
use Rattle.npr_base.proofs.Messages.{message-one, message-coherent, message-sound}
use Rattle.npr_base.proofs.message.«Message+H+H+Attribute».parse_into.Goals as goal

pub returns-in-Ok-clause-one : goal.returns-in-Ok-clause-one
returns-in-Ok-clause-one g c = λ n q. message-one g.H.Header.grammar c.args.bytes.now _ n c.in-Ok.ensures.ok q

pub returns-in-Ok-clause-coherent : goal.returns-in-Ok-clause-coherent
returns-in-Ok-clause-coherent g c = message-coherent g.H.Header.grammar c.args.bytes.now _ (λ i. omega (arith, c.type_inv.bytes i)) c.in-Ok.ensures.ok

pub returns-in-Err-clause-none : goal.returns-in-Err-clause-none
returns-in-Err-clause-none g c = λ other n q. message-sound g.H.Header.grammar c.args.bytes.now n _ (c.in-Err.ensures.refused other) q
