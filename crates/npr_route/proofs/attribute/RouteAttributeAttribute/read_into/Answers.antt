use Rattle.std.proofs.Common.{◌≡◌, ◌≢◌, true, false, sym, ◌∙◌}
use Rattle.std.proofs.lemmas.Result.{err_from_is_err_and}
use Rattle.npr_base.specs.Framing.{number_of}
use Rattle.npr_route.specs.Attribute.{value_wrong, hops_wrong}
use Rattle.npr_route.specs.AttributeLooks.{value_faulty, hops_inside}
use Rattle.npr_route.specs.AttributeView.{meaning_of}
use Rattle.npr_route.proofs.RowLooks.{looks_read}
use Rattle.npr_route.proofs.attribute.RouteAttributeAttribute.read_into.Goals as goal

pub returns-in_err-next_hops-clause-refused : goal.returns-in_err-next_hops-clause-refused
returns-in_err-next_hops-clause-refused g c =
    let p = err_from_is_err_and c.from_residual.result c.from_residual.ensures.1 in
    let nine : number_of c.args.item.now.kind ≡ 9 = sym c.kind.ensures ∙ c.if-kind-eq-RTA_MULTIPATH.true in
    rw (p.1, p.2) (λ other. hops_wrong nine (rw c.value.ensures at (c.in_err-next_hops.ensures.refused other)))

pub returns-in_err-read_flat-clause-refused : goal.returns-in_err-read_flat-clause-refused
returns-in_err-read_flat-clause-refused g c =
    let p = err_from_is_err_and c.from_residual-in_err-read_flat.result c.from_residual-in_err-read_flat.ensures.1 in
    let not_nine : number_of c.args.item.now.kind ≢ 9 = λ nine. c.if-kind-eq-RTA_MULTIPATH.false (c.kind.ensures ∙ nine) in
    rw (p.1, p.2) (λ other. value_wrong not_nine (c.in_err-read_flat.ensures.refused other))

-- ---- the looks

pub returns-in_err-next_hops-clause-exact : goal.returns-in_err-next_hops-clause-exact
returns-in_err-next_hops-clause-exact g c =
    let p = err_from_is_err_and c.from_residual.result c.from_residual.ensures.1 in
    let nine : number_of c.args.item.now.kind ≡ 9 = sym c.kind.ensures ∙ c.if-kind-eq-RTA_MULTIPATH.true in
    let exact = rw c.value.ensures at c.in_err-next_hops.ensures.exact in
    rw (p.1, p.2) (λ other. let h = exact other in (h.0, hops_inside nine h.1))

pub returns-then-kind-eq-RTA_MULTIPATH-clause-exact : goal.returns-then-kind-eq-RTA_MULTIPATH-clause-exact
returns-then-kind-eq-RTA_MULTIPATH-clause-exact g c = λ answered.
    let nine : number_of c.args.item.now.kind ≡ 9 = sym c.kind.ensures ∙ c.if-kind-eq-RTA_MULTIPATH.true in
    let exact = rw c.value.ensures at (c.in_ok-next_hops.ensures.exact tt) in
    (exact.0, hops_inside nine exact.1)

pub returns-in_err-read_flat-clause-exact : goal.returns-in_err-read_flat-clause-exact
returns-in_err-read_flat-clause-exact g c =
    let p = err_from_is_err_and c.from_residual-in_err-read_flat.result c.from_residual-in_err-read_flat.ensures.1 in
    let not_nine : number_of c.args.item.now.kind ≢ 9 = λ nine. c.if-kind-eq-RTA_MULTIPATH.false (c.kind.ensures ∙ nine) in
    rw (p.1, p.2) (λ other. (false, value_faulty _ not_nine (c.in_err-read_flat.ensures.refused other) (c.in_err-read_flat.ensures.exact other)))

pub returns-clause-exact : goal.returns-clause-exact
returns-clause-exact g c = λ answered.
    let not_nine : number_of c.args.item.now.kind ≢ 9 = λ nine. c.if-kind-eq-RTA_MULTIPATH.false (c.kind.ensures ∙ nine) in
    (true, looks_read c.args.context c.args.item.now (meaning_of c.read_flat.new.place) c.args.looks.now c.read_flat.new.looks (λ nine. absurd (not_nine nine)) c.in_ok-read_flat.ensures.ok (c.in_ok-read_flat.ensures.exact tt))
