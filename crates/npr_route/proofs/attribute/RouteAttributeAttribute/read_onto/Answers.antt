use Rattle.std.proofs.Common.{◌≡◌, ◌≢◌, sym, ◌∙◌}
use Rattle.std.proofs.lemmas.Result.{IfErr-weaker, err_from_is_err_and}
use Rattle.npr_base.specs.declared.refusal.DecodeError.TheVariants.{OutOfMemory}
use Rattle.npr_base.specs.Framing.{number_of}
use Rattle.npr_route.specs.Attribute.{Wrong, value_wrong, hops_wrong}
use Rattle.npr_route.specs.FlatFamily as Flats
use Rattle.npr_route.specs.AttributeLooks.{AttributeLooks, hops_inside}
use Rattle.npr_route.proofs.RowLooks.{by_answer}
use Rattle.npr_route.proofs.attribute.RouteAttributeAttribute.read_onto.Goals as goal

pub returns-in_err-next_hops-clause-refused : goal.returns-in_err-next_hops-clause-refused
returns-in_err-next_hops-clause-refused c =
    let x = c.args.item.now in
    let p = err_from_is_err_and c.from_residual.result c.from_residual.ensures.1 in
    let nine : number_of x.kind ≡ 9 = sym c.kind.ensures ∙ c.if-kind-eq-RTA_MULTIPATH.true in
    rw (p.1, p.2) (λ other. hops_wrong nine (rw c.value.ensures at (c.in_err-next_hops.ensures.refused other)))

pub returns-else-kind-eq-RTA_MULTIPATH-clause-refused : goal.returns-else-kind-eq-RTA_MULTIPATH-clause-refused
returns-else-kind-eq-RTA_MULTIPATH-clause-refused c =
    let x = c.args.item.now in
    IfErr-weaker c.push_flat.result (λ e. e ≢ OutOfMemory → (number_of x.kind ≢ 9) × (Flats.attributes c.args.context).Faulty x e) (λ e. e ≢ OutOfMemory → Wrong c.args.context x e)
    (λ e p other. let wrong = p other in value_wrong wrong.0 wrong.1) c.push_flat.ensures.refused

-- ---- the looks

pub returns-in_err-next_hops-clause-exact : goal.returns-in_err-next_hops-clause-exact
returns-in_err-next_hops-clause-exact c =
    let p = err_from_is_err_and c.from_residual.result c.from_residual.ensures.1 in
    let nine : number_of c.args.item.now.kind ≡ 9 = sym c.kind.ensures ∙ c.if-kind-eq-RTA_MULTIPATH.true in
    let exact = rw c.value.ensures at c.in_err-next_hops.ensures.exact in
    rw (p.1, p.2) (λ other. let h = exact other in (h.0, hops_inside nine h.1))

pub returns-in_ok-push-clause-exact : goal.returns-in_ok-push-clause-exact
returns-in_ok-push-clause-exact c = λ answered.
    let nine : number_of c.args.item.now.kind ≡ 9 = sym c.kind.ensures ∙ c.if-kind-eq-RTA_MULTIPATH.true in
    let exact = rw c.value.ensures at (c.in_ok-next_hops.ensures.exact tt) in
    (exact.0, hops_inside nine exact.1)

pub returns-else-kind-eq-RTA_MULTIPATH-clause-exact : goal.returns-else-kind-eq-RTA_MULTIPATH-clause-exact
returns-else-kind-eq-RTA_MULTIPATH-clause-exact c =
    by_answer (λ read. AttributeLooks c.args.context c.args.item.now read c.args.looks.now c.push_flat.new.looks) c.push_flat.result c.push_flat.ensures.read c.push_flat.ensures.faulty
