use Rattle.std.proofs.Common.{◌≡◌, rules, sym, ◌∙◌}
use Rattle.std.proofs.lemmas.Result.{IfOk-weaker}
use Rattle.npr_tc.specs.lemmas.Steps.{said_reads, rest_reads}
use Rattle.npr_tc.proofs.attribute.TcAttributeAttribute.read_into.Goals as goal

pub returns-in-2-clause-ok : goal.returns-in-2-clause-ok
returns-in-2-clause-ok g c =
    IfOk-weaker c.put_options.result _ _
    (λ u p. (p.0, p.2, said_reads c.args.form c.args.item.now p.0 p.1 (sym c.kind.ensures ∙ c.in-2.is) p.3 p.4)) c.put_options.ensures.ok

pub returns-in_default-clause-ok : goal.returns-in_default-clause-ok
returns-in_default-clause-ok g c =
    let other : c.kind.result ≡ 2 → ⊥ = search rules in
    IfOk-weaker c.put_rest.result _ _ (λ u p. (p.0, p.1, rest_reads c.args.form c.args.item.now p.0 (λ e. other (c.kind.ensures ∙ e)) p.2))
    c.put_rest.ensures.ok
