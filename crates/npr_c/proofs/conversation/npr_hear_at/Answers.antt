-- The conversation hears what stands at the place.
use Rattle.std.proofs.Common.{List, ap, arith, subst, ℕ, ◌∙◌}
use Rattle.std.proofs.lemmas.List.{take_rest}
use Rattle.netlink_packet_core.specs.Conversation.{Talk, event_of}
use Rattle.netlink_packet_core.specs.Envelope.{Tail}
use Rattle.npr_c.specs.Hearing.{HearsAt, heard_of}
use Rattle.npr_c.proofs.Hearing.{hears}
use Rattle.npr_c.proofs.conversation.npr_hear_at.Goals as goal

abbrev tail : List ℕ → Tail
tail bytes = record { offset = 0; bytes = bytes }

pub returns-in-Some : goal.returns-in-Some
returns-in-Some c =
    let datagram = c.args.datagram.now in
    let event = event_of c.in-Some.answer in
    let u = c.next.new.self in
    let step = c.npr_message_at-step.result in
    let said = c.in-Some.ensures.1 in
    let place = c.new-walk.ensures ∙ ap tail (take_rest datagram c.args.at) in
    let heard = hears datagram c.args.at c.resumed-talk.result u event step said.0 c.new-walk.result c.next.new.walk (omega arith) place
    c.npr_message_at-step.ensures said.1 said.2 said.3 in
    rw (c.answered.ensures, c.is_interrupted-in-Some.ensures)
    (subst (λ (t : Talk). HearsAt datagram c.args.at t (heard_of event u.interrupted step)) c.resumed-talk.ensures heard)
