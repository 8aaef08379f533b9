-- What the walk finds at the place stands there.
use Rattle.std.proofs.Common.{arith, inr, ap, ◌∙◌}
use Rattle.std.proofs.lemmas.List.{take_rest}
use Rattle.netlink_packet_core.specs.Envelope.{Tail}
use Rattle.npr_c.proofs.EnvelopePlaces.{found_in}
use Rattle.npr_c.proofs.envelopes.npr_message_at.Goals as goal

pub returns-in-Some-Ok : goal.returns-in-Some-Ok
returns-in-Some-Ok c =
    let datagram = c.args.datagram.now in
    let found = rw c.in-Some-Ok.field-0-is at c.in-Some-Ok.ensures.steps in
    let left = ap (λ (p : Tail). p.bytes) c.new-walk.ensures ∙ take_rest datagram c.args.at in
    inr (inr (found_in datagram c.new-walk.result.bytes c.rest.result.now c.args.at c.payload_length.result c.header-header.result c.in-Some-Ok.message
    c.next.new.self.bytes (omega arith) left found.0 c.header-header.ensures c.payload_length.ensures c.rest.ensures))
