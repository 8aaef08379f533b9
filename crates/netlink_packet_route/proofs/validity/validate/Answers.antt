use Rattle.std.proofs.lemmas.Result.{err_from_is_err_and, IfOk-weaker, IfErr-weaker}
use Rattle.netlink_packet_route.specs.MessageKind.{form_of}
use Rattle.netlink_packet_route.proofs.ValidityLaws.{begun-message, begun-fault, begun-short}
use Rattle.netlink_packet_route.proofs.validity.validate.Goals as goal

pub returns-in_err-nest-clause-refused : goal.returns-in_err-nest-clause-refused
returns-in_err-nest-clause-refused c =
    let p = err_from_is_err_and c.from_residual.result c.from_residual.ensures.1 in
    let short = c.in_err-nest.ensures.short in
    rw (p.1, p.2) (begun-short (form_of c.args.kind) c.args.bytes.now c.in_err-nest.field-0.0 short.0 short.1)

pub returns-clause-ok : goal.returns-clause-ok
returns-clause-ok c =
    let begun = c.in_ok-nest in
    IfOk-weaker c.check.result _ _ (λ u list. begun-message (form_of c.args.kind) c.args.bytes.now begun.attributes.now begun.nest begun.ensures.ok list)
    c.check.ensures.ok

pub returns-clause-refused : goal.returns-clause-refused
returns-clause-refused c =
    let begun = c.in_ok-nest in
    IfErr-weaker c.check.result _ _ (λ e bad. begun-fault (form_of c.args.kind) c.args.bytes.now begun.attributes.now begun.nest begun.ensures.ok e bad)
    c.check.ensures.refused
