use Rattle.std.specs.Prelude.{Result, Ok, Err}
use Rattle.std.proofs.Common.{inl, inr, refl}
use Rattle.std.proofs.lemmas.Result.{err_from_is_err_and}
use Rattle.npr_base.specs.declared.refusal.DecodeError.{DecodeError}
use Rattle.npr_base.specs.declared.refusal.DecodeError.TheVariants.{OutOfMemory}
use Rattle.npr_base.specs.declared.attribute_set.AttributeSet.TheVariants.{TcQdiscMqprio}
use Rattle.npr_tc_qdiscs.specs.MqprioOption.{attributes}
use Rattle.npr_tc_qdiscs.specs.MqprioQopt.{mqprio_qopt}
use Rattle.npr_tc_qdiscs.specs.Spaced.{behind-bounded}
use Rattle.npr_tc_qdiscs.proofs.mqprio.TcMqprio.read.Goals as goal

pub returns-in_err-qopt-clause-refused : goal.returns-in_err-qopt-clause-refused
returns-in_err-qopt-clause-refused c =
    let p = err_from_is_err_and c.from_residual.result c.from_residual.ensures.1 in
    rw (p.1, p.2) (λ other. inl c.in_err-qopt.ensures.refused)

pub returns-in_err-qopt-clause-exact : goal.returns-in_err-qopt-clause-exact
returns-in_err-qopt-clause-exact c =
    let p = err_from_is_err_and c.from_residual.result c.from_residual.ensures.1 in
    rw (p.1, p.2) (λ answered. inl (c.in_err-qopt.ensures.refused.0, refl))

pub returns-in_err-options-clause-refused : goal.returns-in_err-options-clause-refused
returns-in_err-options-clause-refused c =
    let p = err_from_is_err_and c.from_residual-in_err-options.result c.from_residual-in_err-options.ensures.1 in
    rw (p.1, p.2) (λ other. inr (c.in_ok-qopt.ensures.ok.0, rw c.bytes_from.ensures at (c.in_err-options.ensures.refused other)))

pub returns-in_err-options-clause-exact : goal.returns-in_err-options-clause-exact
returns-in_err-options-clause-exact c =
    let p = err_from_is_err_and c.from_residual-in_err-options.result c.from_residual-in_err-options.ensures.1 in
    rw (p.1, p.2) (λ other. inr (c.in_ok-qopt.ensures.ok.0, rw c.bytes_from.ensures at (c.in_err-options.ensures.exact other)))

pub returns-clause-ok : goal.returns-clause-ok
returns-clause-ok c = (c.in_ok-qopt.ensures.ok, rw c.bytes_from.ensures at c.in_ok-options.ensures.ok)

pub returns-clause-exact : goal.returns-clause-exact
returns-clause-exact c = λ answered. inr (c.in_ok-qopt.ensures.ok.0, rw c.bytes_from.ensures at (c.in_ok-options.ensures.exact tt))

abbrev cause : {T : Type 0} → Result T DecodeError → DecodeError
cause (Ok v) = OutOfMemory
cause (Err e) = e

pub returns-in_err-options-clause-memory : goal.returns-in_err-options-clause-memory
returns-in_err-options-clause-memory c =
    let p = err_from_is_err_and c.from_residual-in_err-options.result c.from_residual-in_err-options.ensures.1 in
    rw (p.1, p.2) (λ wants. rw c.bytes_from.ensures at (c.in_err-options.ensures.memory (λ i. Err (cause (wants i)))))

pub returns-in_err-options-clause-bounded : goal.returns-in_err-options-clause-bounded
returns-in_err-options-clause-bounded c =
    behind-bounded TcQdiscMqprio attributes mqprio_qopt 2 c.args.bytes.now c.args.looks.now c.parse_list.new.looks
    (rw c.bytes_from.ensures at c.in_err-options.ensures.bounded)

pub returns-clause-bounded : goal.returns-clause-bounded
returns-clause-bounded c =
    behind-bounded TcQdiscMqprio attributes mqprio_qopt 2 c.args.bytes.now c.args.looks.now c.parse_list.new.looks
    (rw c.bytes_from.ensures at c.in_ok-options.ensures.bounded)
