use Rattle.std.proofs.Common.{◌≡◌, ◌⊎◌, sym, ◌∙◌, inl, inr, refl}
use Rattle.std.proofs.lemmas.Result.{IfOk-weaker, IfErr-weaker}
use Rattle.npr_base.specs.Framing.{number_of}
use Rattle.npr_encapsulation.specs.Geneve.{class_child, class_length, order, child}
use Rattle.npr_encapsulation.proofs.geneve.read_child.Goals.{else-kind-ne-LWTUNNEL_IP_OPT_GENEVE_TYPE-via-then-kind-ne-LWTUNNEL_IP_OPT_GENEVE_TYPE+else-kind-ne-LWTUNNEL_IP_OPT_GENEVE_DATA, else-kind-ne-LWTUNNEL_IP_OPT_GENEVE_TYPE-via-else-kind-ne-LWTUNNEL_IP_OPT_GENEVE_TYPE}
use Rattle.npr_encapsulation.proofs.geneve.read_child.Goals as goal

pub returns-then-kind-eq-LWTUNNEL_IP_OPT_GENEVE_CLASS-clause-ok : goal.returns-then-kind-eq-LWTUNNEL_IP_OPT_GENEVE_CLASS-clause-ok
returns-then-kind-eq-LWTUNNEL_IP_OPT_GENEVE_CLASS-clause-ok c =
    let one : number_of c.args.child.now.kind ≡ 1 = sym c.kind-kind.ensures ∙ c.if-kind-eq-LWTUNNEL_IP_OPT_GENEVE_CLASS.true in
    rw (sym c.value.ensures) (IfOk-weaker c.read_class.result _ _ (λ p h. (class_child h.0, (one, h.1), h.2)) c.read_class.ensures.ok)

pub returns-then-kind-eq-LWTUNNEL_IP_OPT_GENEVE_CLASS-clause-refused : goal.returns-then-kind-eq-LWTUNNEL_IP_OPT_GENEVE_CLASS-clause-refused
returns-then-kind-eq-LWTUNNEL_IP_OPT_GENEVE_CLASS-clause-refused c =
    let one : number_of c.args.child.now.kind ≡ 1 = sym c.kind-kind.ensures ∙ c.if-kind-eq-LWTUNNEL_IP_OPT_GENEVE_CLASS.true in
    IfErr-weaker c.read_class.result _ _ (λ e h other. class_length e one (rw (sym c.value.ensures) h)) c.read_class.ensures.refused

pub returns-then-kind-ne-LWTUNNEL_IP_OPT_GENEVE_DATA-clause-refused : goal.returns-then-kind-ne-LWTUNNEL_IP_OPT_GENEVE_DATA-clause-refused
returns-then-kind-ne-LWTUNNEL_IP_OPT_GENEVE_DATA-clause-refused c = λ other. rw c.kind-kind.ensures (child (λ e. c.if-kind-eq-LWTUNNEL_IP_OPT_GENEVE_CLASS.false (c.kind-kind.ensures ∙ e)) (λ e. c.if-kind-ne-LWTUNNEL_IP_OPT_GENEVE_TYPE.true (c.kind-kind.ensures ∙ e)) (λ e. c.if-kind-ne-LWTUNNEL_IP_OPT_GENEVE_DATA.true (c.kind-kind.ensures ∙ e)))

pub returns-in-None-clause-refused : goal.returns-in-None-clause-refused
returns-in-None-clause-refused c = λ other.
    let number = sym c.kind-kind.ensures in
    let which : (number_of c.args.child.now.kind ≡ 2) ⊎ (number_of c.args.child.now.kind ≡ 3) = elim c.else-kind-ne-LWTUNNEL_IP_OPT_GENEVE_TYPE.branch [
      | else-kind-ne-LWTUNNEL_IP_OPT_GENEVE_TYPE-via-then-kind-ne-LWTUNNEL_IP_OPT_GENEVE_TYPE+else-kind-ne-LWTUNNEL_IP_OPT_GENEVE_DATA w ↦ inr (number ∙ w.if-kind-ne-LWTUNNEL_IP_OPT_GENEVE_DATA.false)
      | else-kind-ne-LWTUNNEL_IP_OPT_GENEVE_TYPE-via-else-kind-ne-LWTUNNEL_IP_OPT_GENEVE_TYPE w ↦ inl (number ∙ w.if-kind-ne-LWTUNNEL_IP_OPT_GENEVE_TYPE.false)
    ] in
    rw (c.in-None.is, c.kind-kind.ensures) (order refl which)
