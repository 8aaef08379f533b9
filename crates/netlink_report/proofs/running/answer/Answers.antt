use Rattle.std.proofs.Common.{arith}
use Rattle.std.proofs.lemmas.Result.{IfOk-weaker, err_from_is_err_and}
use Rattle.netlink_packet_route.proofs.CanonicalAttributes.{canonical-header}
use Rattle.netlink_report.proofs.Reporting.{ended-memory, ended-refused, ended-unfit, memory-some, message-some, reported}
use Rattle.netlink_report.proofs.running.answer.Goals as goal

pub returns-in_err-canonical-clause-refused : goal.returns-in_err-canonical-clause-refused
returns-in_err-canonical-clause-refused c = λ e is.
    let p = err_from_is_err_and c.from_residual.result c.from_residual.ensures.1 in
    ended-refused c.args.kind c.args.bytes.now c.in_err-canonical.field-0.0 e c.in_err-canonical.ensures.fault cc

pub returns-in_err-canonical-clause-unfit : goal.returns-in_err-canonical-clause-unfit
returns-in_err-canonical-clause-unfit c = λ e is.
    let p = err_from_is_err_and c.from_residual.result c.from_residual.ensures.1 in
    ended-unfit c.args.kind c.args.bytes.now c.in_err-canonical.field-0.0 e c.in_err-canonical.ensures.fault cc

pub returns-in_err-canonical-clause-memory : goal.returns-in_err-canonical-clause-memory
returns-in_err-canonical-clause-memory c = λ is.
    let p = err_from_is_err_and c.from_residual.result c.from_residual.ensures.1 in
    let same = ended-memory c.in_err-canonical.field-0.0 cc in
    memory-some c.args.kind c.args.bytes.now (c.in_err-canonical.ensures.memory cc)

-- canonical bytes have a header
pub returns-in_err-attributes-clause-refused : goal.returns-in_err-attributes-clause-refused
returns-in_err-attributes-clause-refused c = λ e is.
    let canonical = c.in_ok-canonical in
    let whole = canonical-header c.args.kind c.args.bytes.now canonical.canonical.items (λ i. omega (arith, c.type_inv.bytes i)) canonical.ensures.ok in
    absurd (omega (arith, whole, (rw c.as_slice.ensures.value at c.in_err-attributes.ensures.short.0)))

-- a message has a header
pub returns-clause-memory : goal.returns-clause-memory
returns-clause-memory c = λ is. message-some c.args.kind c.args.bytes.now c.in_ok-canonical.canonical.items c.in_ok-canonical.ensures.ok

pub returns-clause-ok : goal.returns-clause-ok
returns-clause-ok c =
    let canonical = c.in_ok-canonical in
    let begun = c.in_ok-attributes in
    IfOk-weaker c.whole.result _ _
    (λ text says.
    reported c.args.kind c.args.bytes.now canonical.canonical.items begun.attributes.now c.name.result.now _ begun.field-0-0
    (λ i. omega (arith, c.type_inv.bytes i)) canonical.ensures.ok (rw c.as_slice.ensures.value at begun.ensures.ok) c.name.ensures
    (rw c.as_slice-2.ensures.value at says))
    c.whole.ensures.ok
