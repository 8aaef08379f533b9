use Rattle.std.proofs.Common.{ap, refl}
use Rattle.npr_base.specs.Message.{message_unfit, view}
use Rattle.netlink_packet_route.specs.Canonical.{CanonicalFault, Fills}
use Rattle.netlink_packet_route.specs.declared.canonical_bytes.CanonicalError.TheVariants.{Refused}
use Rattle.netlink_packet_route.proofs.CanonicalLaws.{emits-fills, fills-none, fills-one}
use Rattle.netlink_packet_route.proofs.canonical_bytes.write_by.Goals as goal

pub returns-in-Ok-clause-answer : goal.returns-in-Ok-clause-answer
returns-in-Ok-clause-answer g c =
    let m = view g.H.Header.grammar c.in-Ok.message in
    emits-fills g.H.Header.grammar c.args.bytes.now m (message_unfit g.H.Header.grammar m) c.args.out.now c.emit_into.new.out c.emit_into.result
    c.in-Ok.ensures.ok refl c.emit_into.ensures

pub returns-in-Err-clause-answer : goal.returns-in-Err-clause-answer
unfolding Fills CanonicalFault
returns-in-Err-clause-answer g c = (λ other. c.in-Err.ensures.refused (λ is. other (ap Refused is)), refl)

pub returns-in-Ok-clause-one : goal.returns-in-Ok-clause-one
returns-in-Ok-clause-one g c =
    fills-one g.H.Header.grammar c.args.bytes.now c.args.out.now c.emit_into.new.out c.emit_into.result (returns-in-Ok-clause-answer g c)

pub returns-in-Ok-clause-none : goal.returns-in-Ok-clause-none
returns-in-Ok-clause-none g c =
    fills-none g.H.Header.grammar c.args.bytes.now c.args.out.now c.emit_into.new.out c.emit_into.result (returns-in-Ok-clause-answer g c)

pub returns-in-Err-clause-none : goal.returns-in-Err-clause-none
returns-in-Err-clause-none g c = fills-none g.H.Header.grammar c.args.bytes.now c.args.out.now c.args.out.now _ (returns-in-Err-clause-answer g c)
