use Rattle.std.proofs.Common.{◌≡◌, [], drop, map, inl, refl, sym, subst}
use Rattle.std.proofs.lemmas.List.{take_rest}
use Rattle.std.proofs.lemmas.Result.{err_from_is_err_and}
use Rattle.npr_base.specs.Message.{MessageFault}
use Rattle.npr_base.proofs.ValuesLaws.{values-seen, values-read, values-fault, values-none}
use Rattle.npr_base.proofs.Messages.{message_list, fault_behind}
use Rattle.npr_base.proofs.value_walk.«Message+H+H+Attribute».values.Goals as goal

pub returns-in_err-check_header-clause-refused : goal.returns-in_err-check_header-clause-refused
unfolding MessageFault
returns-in_err-check_header-clause-refused g c =
    let p = err_from_is_err_and c.from_residual.result c.from_residual.ensures.1 in
    rw (p.1, p.2) (inl c.in_err-check_header.ensures.refused)

pub returns-clause-seen : goal.returns-clause-seen
returns-clause-seen g c = λ vs steps m is.
    let A = g.H.Attribute.Attribute in
    let h = c.in_front-header.result in
    let walk = c.new-2.result.walk in
    let context = c.new-2.result.context in
    let governs = subst (λ k. g.H.Header.governs h walk k) (sym c.new-2.ensures.context)
    (subst (λ b. g.H.Header.governs h b c.context-context.result) (sym c.new-2.ensures.walk) c.context-context.ensures.governs) in
    let rest : walk ≡ drop g.H.Header.grammar.layout.size c.args.bytes.now = rw (c.new-2.ensures.walk, take_rest, c.size.ensures) refl in
    let (header, list) =
    message_list g.H.Header.grammar A.family c.args.bytes.now h walk context (g.met.H.Header.under h walk context governs)
    c.in_front-header.ensures.1 rest m is in
    (header, values-seen (A.family.reading context) vs walk (map A.family.meaning m.attributes.items) steps list)

pub returns-clause-whole : goal.returns-clause-whole
returns-clause-whole g c = λ vs steps read. values-read (g.H.Attribute.Attribute.family.reading c.new-2.result.context) vs c.new-2.result.walk [] steps read

pub returns-clause-fault : goal.returns-clause-fault
returns-clause-fault g c = λ vs rest left e steps read step.
    let A = g.H.Attribute.Attribute in
    let h = c.in_front-header.result in
    let walk = c.new-2.result.walk in
    let context = c.new-2.result.context in
    let governs = subst (λ k. g.H.Header.governs h walk k) (sym c.new-2.ensures.context)
    (subst (λ b. g.H.Header.governs h b c.context-context.result) (sym c.new-2.ensures.walk) c.context-context.ensures.governs) in
    let behind : walk ≡ drop g.H.Header.grammar.layout.size c.args.bytes.now = rw (c.new-2.ensures.walk, take_rest, c.size.ensures) refl in
    let bad = values-fault (A.family.reading context) vs walk rest left e steps read step in
    fault_behind g.H.Header.grammar c.args.bytes.now h walk e c.in_front-header.ensures.0 c.in_front-header.ensures.1 behind
    ((g.met.H.Header.under h walk context governs).faulty e bad)

pub returns-clause-none : goal.returns-clause-none
returns-clause-none g c = λ vs rest left e steps step m is.
    let A = g.H.Attribute.Attribute in
    let h = c.in_front-header.result in
    let walk = c.new-2.result.walk in
    let context = c.new-2.result.context in
    let governs = subst (λ k. g.H.Header.governs h walk k) (sym c.new-2.ensures.context)
    (subst (λ b. g.H.Header.governs h b c.context-context.result) (sym c.new-2.ensures.walk) c.context-context.ensures.governs) in
    let behind : walk ≡ drop g.H.Header.grammar.layout.size c.args.bytes.now = rw (c.new-2.ensures.walk, take_rest, c.size.ensures) refl in
    let (header, list) =
    message_list g.H.Header.grammar A.family c.args.bytes.now h walk context (g.met.H.Header.under h walk context governs)
    c.in_front-header.ensures.1 behind m is in
    values-none (A.family.reading context) vs walk rest left e (map A.family.meaning m.attributes.items) steps step list
