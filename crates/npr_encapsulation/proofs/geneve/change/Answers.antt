use Rattle.std.proofs.Common.{◌≡◌, sym, ◌∙◌, inl, inr, refl}
use Rattle.std.proofs.lemmas.Result.{IfOk-weaker, IfErr-weaker}
use Rattle.npr_base.specs.Framing.{number_of}
use Rattle.npr_encapsulation.specs.Geneve.{type_child, data_child, type_length}
use Rattle.npr_encapsulation.proofs.geneve.change.Goals as goal

pub returns-then-kind-eq-LWTUNNEL_IP_OPT_GENEVE_TYPE-clause-ok : goal.returns-then-kind-eq-LWTUNNEL_IP_OPT_GENEVE_TYPE-clause-ok
returns-then-kind-eq-LWTUNNEL_IP_OPT_GENEVE_TYPE-clause-ok c =
    let two : number_of c.args.child.now.kind ≡ 2 = sym c.kind.ensures ∙ c.if-kind-eq-LWTUNNEL_IP_OPT_GENEVE_TYPE.true in
    rw (sym c.value.ensures) (IfOk-weaker c.read_type.result _ _ (λ o h. (type_child h.0, (two, h.1), h.2)) c.read_type.ensures.ok)

pub returns-then-kind-eq-LWTUNNEL_IP_OPT_GENEVE_TYPE-clause-refused : goal.returns-then-kind-eq-LWTUNNEL_IP_OPT_GENEVE_TYPE-clause-refused
returns-then-kind-eq-LWTUNNEL_IP_OPT_GENEVE_TYPE-clause-refused c =
    let two : number_of c.args.child.now.kind ≡ 2 = sym c.kind.ensures ∙ c.if-kind-eq-LWTUNNEL_IP_OPT_GENEVE_TYPE.true in
    IfErr-weaker c.read_type.result _ _ (λ e h other. type_length e two refl (rw (sym c.value.ensures) h)) c.read_type.ensures.refused

pub returns-else-kind-eq-LWTUNNEL_IP_OPT_GENEVE_TYPE-clause-ok : goal.returns-else-kind-eq-LWTUNNEL_IP_OPT_GENEVE_TYPE-clause-ok
returns-else-kind-eq-LWTUNNEL_IP_OPT_GENEVE_TYPE-clause-ok c =
    let three : number_of c.args.child.now.kind ≡ 3 = elim c.requires [ inl e ↦ absurd (c.if-kind-eq-LWTUNNEL_IP_OPT_GENEVE_TYPE.false (c.kind.ensures ∙ e)) | inr e ↦ e ] in
    rw (sym c.value-else-kind-eq-LWTUNNEL_IP_OPT_GENEVE_TYPE.ensures) (IfOk-weaker c.read_data.result _ _ (λ o h. (data_child c.value-else-kind-eq-LWTUNNEL_IP_OPT_GENEVE_TYPE.result.now, (three, refl), h)) c.read_data.ensures.ok)
