-- the message that was read is the one that can't be written
use Rattle.std.proofs.Common.{arith}
use Rattle.std.proofs.lemmas.Grind.{common_steps}
use Rattle.netlink_packet_route.specs.Messages.{view}
use Rattle.examples.proofs.again.again.Goals as goal

pub returns-in_err-to_vec-clause-unfit : goal.returns-in_err-to_vec-clause-unfit
returns-in_err-to_vec-clause-unfit g c = λ e is. (view g.H.Header.grammar c.in_ok-message.message, c.in_ok-message.ensures.ok, grind (arith, common_steps))
