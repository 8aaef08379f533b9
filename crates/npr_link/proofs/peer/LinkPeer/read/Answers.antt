use Rattle.std.specs.Prelude.{Result, Ok, Err}
use Rattle.std.proofs.Common.{map, inl, refl}
use Rattle.std.proofs.lemmas.List.{take_rest}
use Rattle.std.proofs.lemmas.Result.{err_from_is_err_and}
use Rattle.npr_base.specs.declared.refusal.DecodeError.{DecodeError}
use Rattle.npr_base.specs.declared.refusal.DecodeError.TheVariants.{OutOfMemory}
use Rattle.npr_base.specs.Message.{MessageFault, MessageLooks}
use Rattle.npr_base.proofs.Messages.{message_read, fault_after, looks_after}
use Rattle.npr_link.specs.Peer.{peers}
use Rattle.npr_link.proofs.peer.LinkPeer.read.Goals as goal

pub returns-then-bytes-lt-IFINFOMSG_SIZE-clause-refused : goal.returns-then-bytes-lt-IFINFOMSG_SIZE-clause-refused
unfolding MessageFault
returns-then-bytes-lt-IFINFOMSG_SIZE-clause-refused c = λ other. inl (c.if-bytes-lt-IFINFOMSG_SIZE.true, refl)

pub returns-then-bytes-lt-IFINFOMSG_SIZE-clause-exact : goal.returns-then-bytes-lt-IFINFOMSG_SIZE-clause-exact
unfolding MessageLooks
returns-then-bytes-lt-IFINFOMSG_SIZE-clause-exact c = λ answered. inl (c.if-bytes-lt-IFINFOMSG_SIZE.true, refl)

pub returns-in_err-attributes-clause-refused : goal.returns-in_err-attributes-clause-refused
returns-in_err-attributes-clause-refused c =
    let p = err_from_is_err_and c.from_residual.result c.from_residual.ensures.1 in
    let head = c.at_front-header.ensures in
    rw (p.1, p.2) (λ other.
    fault_after peers c.args.bytes.now c.at_front-header.result c.in_err-attributes.field-0.0 head.0 head.1
    (rw take_rest at (c.in_err-attributes.ensures.refused other)))

pub returns-in_err-attributes-clause-exact : goal.returns-in_err-attributes-clause-exact
returns-in_err-attributes-clause-exact c =
    let p = err_from_is_err_and c.from_residual.result c.from_residual.ensures.1 in
    let head = c.at_front-header.ensures in
    rw (p.1, p.2) (λ other.
    looks_after peers c.args.bytes.now c.at_front-header.result c.args.looks.now c.parse_list.new.looks head.0 head.1
    (rw take_rest at (c.in_err-attributes.ensures.exact other)))

pub returns-clause-ok : goal.returns-clause-ok
returns-clause-ok c =
    let head = c.at_front-header.ensures in
    message_read peers c.args.bytes.now
    (record { header = c.at_front-header.result; attributes = map peers.meaning c.in_ok-attributes.attributes.items }) head.0 head.1
    (rw take_rest at c.in_ok-attributes.ensures.ok)

pub returns-clause-exact : goal.returns-clause-exact
returns-clause-exact c = λ answered.
    let head = c.at_front-header.ensures in
    looks_after peers c.args.bytes.now c.at_front-header.result c.args.looks.now c.parse_list.new.looks head.0 head.1
    (rw take_rest at (c.in_ok-attributes.ensures.exact tt))

abbrev cause : {T : Type 0} → Result T DecodeError → DecodeError
cause (Ok v) = OutOfMemory
cause (Err e) = e

pub returns-in_err-attributes-clause-memory : goal.returns-in_err-attributes-clause-memory
returns-in_err-attributes-clause-memory c =
    let p = err_from_is_err_and c.from_residual.result c.from_residual.ensures.1 in
    rw (p.1, p.2) (λ wants. rw take_rest at (c.in_err-attributes.ensures.memory (λ i. Err (cause (wants i)))))
