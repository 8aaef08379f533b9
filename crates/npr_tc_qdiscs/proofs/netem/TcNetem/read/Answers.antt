use Rattle.std.specs.Prelude.{Result, Ok, Err}
use Rattle.std.proofs.Common.{map, inl, refl}
use Rattle.std.proofs.lemmas.List.{take_rest}
use Rattle.std.proofs.lemmas.Result.{err_from_is_err_and}
use Rattle.npr_base.specs.declared.refusal.DecodeError.{DecodeError}
use Rattle.npr_base.specs.declared.refusal.DecodeError.TheVariants.{OutOfMemory}
use Rattle.npr_base.specs.Message.{MessageFault, MessageLooks}
use Rattle.npr_base.specs.lemmas.Messages.{message_read, fault_after, looks_after}
use Rattle.npr_tc_qdiscs.specs.Netem.{netems}
use Rattle.npr_tc_qdiscs.proofs.netem.TcNetem.read.Goals as goal

pub returns-in_err-qopt-clause-refused : goal.returns-in_err-qopt-clause-refused
unfolding MessageFault
returns-in_err-qopt-clause-refused c =
    let p = err_from_is_err_and c.from_residual.result c.from_residual.ensures.1 in
    rw (p.1, p.2) (λ other. inl c.in_err-qopt.ensures.refused)

pub returns-in_err-qopt-clause-exact : goal.returns-in_err-qopt-clause-exact
unfolding MessageLooks
returns-in_err-qopt-clause-exact c =
    let p = err_from_is_err_and c.from_residual.result c.from_residual.ensures.1 in
    rw (p.1, p.2) (λ answered. inl (c.in_err-qopt.ensures.refused.0, refl))

pub returns-in_err-options-clause-refused : goal.returns-in_err-options-clause-refused
returns-in_err-options-clause-refused c =
    let p = err_from_is_err_and c.from_residual-in_err-options.result c.from_residual-in_err-options.ensures.1 in
    let head = c.in_ok-qopt.ensures.ok in
    rw (p.1, p.2) (λ other.
    fault_after netems c.args.bytes.now c.in_ok-qopt.qopt c.in_err-options.field-0.0 head.0 head.1
    (rw take_rest at (c.in_err-options.ensures.refused other)))

pub returns-in_err-options-clause-exact : goal.returns-in_err-options-clause-exact
returns-in_err-options-clause-exact c =
    let p = err_from_is_err_and c.from_residual-in_err-options.result c.from_residual-in_err-options.ensures.1 in
    let head = c.in_ok-qopt.ensures.ok in
    rw (p.1, p.2) (λ other.
    looks_after netems c.args.bytes.now c.in_ok-qopt.qopt c.args.looks.now c.parse_list.new.looks head.0 head.1
    (rw take_rest at (c.in_err-options.ensures.exact other)))

pub returns-clause-ok : goal.returns-clause-ok
returns-clause-ok c =
    let head = c.in_ok-qopt.ensures.ok in
    message_read netems c.args.bytes.now
    (record { header = c.in_ok-qopt.qopt; attributes = map netems.meaning c.in_ok-options.options.items }) head.0 head.1
    (rw take_rest at c.in_ok-options.ensures.ok)

pub returns-clause-exact : goal.returns-clause-exact
returns-clause-exact c = λ answered.
    let head = c.in_ok-qopt.ensures.ok in
    looks_after netems c.args.bytes.now c.in_ok-qopt.qopt c.args.looks.now c.parse_list.new.looks head.0 head.1
    (rw take_rest at (c.in_ok-options.ensures.exact tt))

abbrev cause : {T : Type 0} → Result T DecodeError → DecodeError
cause (Ok v) = OutOfMemory
cause (Err e) = e

pub returns-in_err-options-clause-memory : goal.returns-in_err-options-clause-memory
returns-in_err-options-clause-memory c =
    let p = err_from_is_err_and c.from_residual-in_err-options.result c.from_residual-in_err-options.ensures.1 in
    rw (p.1, p.2) (λ wants. rw take_rest at (c.in_err-options.ensures.memory (λ i. Err (cause (wants i)))))
