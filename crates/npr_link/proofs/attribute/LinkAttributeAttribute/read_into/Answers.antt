use Rattle.std.proofs.Common.{◌≡◌, List, ℕ, sym, subst, rules, ◌∙◌}
use Rattle.npr_link.specs.AfSpecs.{af_specs, form_of}
use Rattle.std.proofs.lemmas.Result.{IfErr-weaker}
use Rattle.npr_base.specs.Refusal.{no_place}
use Rattle.npr_link.specs.AttributeSteps.{proto_reads, af_reads, info_reads, info_wrong, flat_reads}
use Rattle.npr_link.specs.InfoList.{info_list}
use Rattle.npr_link.proofs.OkAs.{ok_as}
use Rattle.npr_link.proofs.attribute.LinkAttributeAttribute.read_into.Goals as goal

pub returns-in-12-clause-ok : goal.returns-in-12-clause-ok
returns-in-12-clause-ok g c =
    ok_as c.put_proto_info.result (λ u p.
    (p.0, p.2, proto_reads c.args.family c.args.item.now p.0 p.1 (sym c.kind.ensures ∙ c.in-12.is) p.3 p.4)) c.put_proto_info.ensures.ok

pub returns-in-26-clause-ok : goal.returns-in-26-clause-ok
returns-in-26-clause-ok g c =
    ok_as c.put_af_spec.result (λ u p. (
      p.0,
      p.2,
      af_reads c.args.family c.args.item.now p.0 p.1 (sym c.kind.ensures ∙ c.in-26.is) p.3
          (subst (λ (w : List ℕ). (af_specs (form_of c.args.family)).Reads w p.1) c.value.ensures p.4),
    )) c.put_af_spec.ensures.ok

pub returns-in-18-clause-ok : goal.returns-in-18-clause-ok
returns-in-18-clause-ok g c =
    ok_as c.put_info.result (λ u p. (
      p.0,
      p.2,
      info_reads c.args.family c.args.item.now p.0 p.1 (sym c.kind.ensures ∙ c.in-18.is) p.3
          (subst (λ (w : List ℕ). info_list.Reads w p.1) c.value-in-18.ensures p.4),
    )) c.put_info.ensures.ok

pub returns-in_default-clause-ok : goal.returns-in_default-clause-ok
returns-in_default-clause-ok g c =
    let proto : c.kind.result ≡ 12 → ⊥ = search rules in
    let af : c.kind.result ≡ 26 → ⊥ = search rules in
    let info : c.kind.result ≡ 18 → ⊥ = search rules in
    let is = c.kind.ensures in
    ok_as c.put_flat.result (λ u p.
    (p.0, p.1, flat_reads c.args.family c.args.item.now p.0 (λ e. proto (is ∙ e), λ e. af (is ∙ e), λ e. info (is ∙ e)) p.2))
    c.put_flat.ensures.ok

pub returns-in-18-clause-refused : goal.returns-in-18-clause-refused
returns-in-18-clause-refused g c =
    IfErr-weaker c.put_info.result _ _
    (λ e wrong other. info_wrong c.args.family c.args.item.now no_place e (sym c.kind.ensures ∙ c.in-18.is)
    (subst (λ (w : List ℕ). info_list.Wrong no_place w e) c.value-in-18.ensures (wrong other)))
    c.put_info.ensures.refused
