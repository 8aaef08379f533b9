use Rattle.std.specs.Prelude.{◌≢◌}
use Rattle.std.proofs.Common.{◌≡◌, rules, sym, ◌∙◌, inl, inr, refl}
use Rattle.std.proofs.lemmas.Result.{err_from_is_err_and}
use Rattle.npr_base.specs.Framing.{number_of}
use Rattle.npr_encapsulation.specs.Geneve.{class_child, type_child, data_child, class_length, type_length, order, child}
use Rattle.npr_encapsulation.proofs.geneve.check_child.Goals as goal

pub returns-in_err-read_u16_be-in-1-clause-refused : goal.returns-in_err-read_u16_be-in-1-clause-refused
returns-in_err-read_u16_be-in-1-clause-refused c =
    let p = err_from_is_err_and c.from_residual.result c.from_residual.ensures.1 in
    let one : number_of c.args.child.now.kind ≡ 1 = sym c.kind-kind.ensures ∙ c.in-1.is in
    rw (p.1, p.2) (class_length c.in_err-read_u16_be-in-1.field-0.0 one (rw (c.value.ensures, c.at.ensures) at c.in_err-read_u16_be-in-1.ensures.refused))

pub returns-in_err-read_u8-in-2-clause-refused : goal.returns-in_err-read_u8-in-2-clause-refused
returns-in_err-read_u8-in-2-clause-refused c =
    let p = err_from_is_err_and c.from_residual-in_err-read_u8-in-2.result c.from_residual-in_err-read_u8-in-2.ensures.1 in
    let two : number_of c.args.child.now.kind ≡ 2 = sym c.kind-kind.ensures ∙ c.in-2.is in
    let wrong = rw (c.value-in-2.ensures, c.at-in-2.ensures) at c.in_err-read_u8-in-2.ensures.refused in
    rw (p.1, p.2) (type_length c.in_err-read_u8-in-2.field-0.0 two c.if-not-inside.false wrong)

pub returns-then-not-inside-clause-refused : goal.returns-then-not-inside-clause-refused
returns-then-not-inside-clause-refused c = rw c.kind-kind.ensures (order c.if-not-inside.true (inl (sym c.kind-kind.ensures ∙ c.in-2.is)))

pub returns-then-not-inside-2-clause-refused : goal.returns-then-not-inside-2-clause-refused
returns-then-not-inside-2-clause-refused c = rw c.kind-kind.ensures (order c.if-not-inside-2.true (inr (sym c.kind-kind.ensures ∙ c.in-3.is)))

pub returns-in_default-clause-refused : goal.returns-in_default-clause-refused
returns-in_default-clause-refused c =
    let one : c.kind-kind.result ≢ 1 = search rules in
    let two : c.kind-kind.result ≢ 2 = search rules in
    let three : c.kind-kind.result ≢ 3 = search rules in
    let number = c.kind-kind.ensures in
    rw number (child (λ e. one (number ∙ e)) (λ e. two (number ∙ e)) (λ e. three (number ∙ e)))

pub returns-in_ok-read_u16_be-in-1-clause-ok : goal.returns-in_ok-read_u16_be-in-1-clause-ok
returns-in_ok-read_u16_be-in-1-clause-ok c =
    (class_child c.in_ok-read_u16_be-in-1.field-0, (sym c.kind-kind.ensures ∙ c.in-1.is, rw c.value.ensures at c.in_ok-read_u16_be-in-1.ensures.ok), tt)

pub returns-in_ok-read_u8-in-2-clause-ok : goal.returns-in_ok-read_u8-in-2-clause-ok
returns-in_ok-read_u8-in-2-clause-ok c =
    let reads = rw c.value-in-2.ensures at c.in_ok-read_u8-in-2.ensures.ok in
    (type_child c.in_ok-read_u8-in-2.field-0, (sym c.kind-kind.ensures ∙ c.in-2.is, reads), c.if-not-inside.false)

pub returns-else-not-inside-2-clause-ok : goal.returns-else-not-inside-2-clause-ok
returns-else-not-inside-2-clause-ok c = (data_child c.args.child.now.value, (sym c.kind-kind.ensures ∙ c.in-3.is, refl), c.if-not-inside-2.false)
