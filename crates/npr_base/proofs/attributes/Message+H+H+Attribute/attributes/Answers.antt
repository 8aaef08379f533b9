use Rattle.std.proofs.Common.{map, [], inl}
use Rattle.std.proofs.lemmas.List.{take_rest}
use Rattle.std.proofs.lemmas.Result.{err_from_is_err_and}
use Rattle.npr_base.specs.Message.{MessageFault}
use Rattle.npr_base.proofs.Messages.{message_read, fault_after}
use Rattle.npr_base.proofs.AttributesLaws.{steps-read}
use Rattle.npr_base.proofs.attributes.«Message+H+H+Attribute».attributes.Goals as goal

pub returns-clause-all : goal.returns-clause-all
returns-clause-all g c = λ xs steps.
    let A = g.H.Attribute.Attribute in
    let h = c.in_front-header.result in
    let head = c.in_front-header.ensures in
    let behind = rw c.new-2.ensures at (steps-read A.family.meaning (A.family.reading c.context.result) xs c.new-2.result [] steps) in
    let list = rw (take_rest, c.size.ensures) at ((g.met.H.Header.under h _ c.context.result c.context.ensures.governs).reads xs behind) in
    message_read g.H.Header.grammar c.args.bytes.now (record { header = h; attributes = map g.H.Header.grammar.meaning xs }) head.0 head.1 list

pub returns-clause-fault : goal.returns-clause-fault
returns-clause-fault g c = λ xs rest left e steps step other.
    let A = g.H.Attribute.Attribute in
    let h = c.in_front-header.result in
    let head = c.in_front-header.ensures in
    let passed = rw c.new-2.ensures at (steps-read A.family.meaning (A.family.reading c.context.result) xs c.new-2.result rest steps) in
    let bad = rw (take_rest, c.size.ensures) at ((g.met.H.Header.under h _ c.context.result c.context.ensures.governs).faulty e (map A.family.meaning xs, rest, passed, step.0 other)) in
    fault_after g.H.Header.grammar c.args.bytes.now h e head.0 head.1 bad

pub returns-in_err-check_header-clause-refused : goal.returns-in_err-check_header-clause-refused
unfolding MessageFault
returns-in_err-check_header-clause-refused g c =
    let p = err_from_is_err_and c.from_residual.result c.from_residual.ensures.1 in
    rw (p.1, p.2) (inl c.in_err-check_header.ensures.refused)
