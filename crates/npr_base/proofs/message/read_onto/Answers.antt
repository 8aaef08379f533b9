use Rattle.std.proofs.Common.{ℕ, map, inl, refl, subst, length-drop}
use Rattle.std.proofs.lemmas.List.{take_rest}
use Rattle.std.proofs.lemmas.Result.{err_from_is_err_and}
use Rattle.npr_base.specs.Counts.{AddsAtMostTwice}
use Rattle.npr_base.specs.Message.{MessageFault, MessageLooks}
use Rattle.npr_base.specs.lemmas.LookBounds.{searched-read}
use Rattle.npr_base.proofs.Messages.{message_read, fault_after, looks_after, message-saw}
use Rattle.npr_base.proofs.message.read_onto.Goals as goal

pub returns-in_err-check_header-clause-refused : goal.returns-in_err-check_header-clause-refused
unfolding MessageFault
returns-in_err-check_header-clause-refused g c =
    let p = err_from_is_err_and c.from_residual.result c.from_residual.ensures.1 in
    rw (p.1, p.2) (λ other. inl c.in_err-check_header.ensures.refused)

pub returns-in_err-check_header-clause-exact : goal.returns-in_err-check_header-clause-exact
unfolding MessageLooks
returns-in_err-check_header-clause-exact g c = λ answered. inl (c.in_err-check_header.ensures.refused.0, refl)

pub returns-in_err-fill_list-clause-refused : goal.returns-in_err-fill_list-clause-refused
returns-in_err-fill_list-clause-refused g c =
    let p = err_from_is_err_and c.from_residual-in_err-fill_list.result c.from_residual-in_err-fill_list.ensures.1 in
    let h = c.in_front-header.result in
    let head = c.in_front-header.ensures in
    let e = c.in_err-fill_list.field-0.0 in
    let under = g.met.H.Header.under h _ c.context-context.result c.context-context.ensures.governs in
    rw (p.1, p.2) (λ other. fault_after g.H.Header.grammar c.args.bytes.now h e head.0 head.1 (rw (take_rest, c.size.ensures) at (under.faulty e (c.in_err-fill_list.ensures.refused other))))

pub returns-in_err-fill_list-clause-exact : goal.returns-in_err-fill_list-clause-exact
returns-in_err-fill_list-clause-exact g c =
    let p = err_from_is_err_and c.from_residual-in_err-fill_list.result c.from_residual-in_err-fill_list.ensures.1 in
    let h = c.in_front-header.result in
    let head = c.in_front-header.ensures in
    let looks = c.context-context.new.looks in
    let under = g.met.H.Header.under h _ c.context-context.result c.context-context.ensures.governs in
    rw (p.1, p.2) (λ other. looks_after g.H.Header.grammar c.args.bytes.now h c.args.looks.now c.fill_list.new.looks head.0 head.1 (rw (take_rest, c.size.ensures) at (under.looks c.args.looks.now looks c.fill_list.new.looks c.context-context.ensures.searches (c.in_err-fill_list.ensures.exact other))))

pub returns-in_err-fill_list-clause-bounded : goal.returns-in_err-fill_list-clause-bounded
returns-in_err-fill_list-clause-bounded g c =
    let under = g.met.H.Header.under c.in_front-header.result _ c.context-context.result c.context-context.ensures.governs in
    let searched = under.searched c.args.looks.now c.context-context.new.looks c.context-context.ensures.searches in
    let twice = rw (take_rest, c.size.ensures) at (searched-read _ c.args.looks.now c.context-context.new.looks c.fill_list.new.looks searched c.fill_list.ensures.walked) in
    subst (λ (n : ℕ). AddsAtMostTwice c.args.looks.now c.fill_list.new.looks n) (length-drop g.H.Header.grammar.layout.size c.args.bytes.now) twice

pub returns-clause-ok : goal.returns-clause-ok
returns-clause-ok g c =
    let h = c.in_front-header.result in
    let head = c.in_front-header.ensures in
    let under = g.met.H.Header.under h _ c.context-context.result c.context-context.ensures.governs in
    let list = rw (take_rest, c.size.ensures) at (under.reads c.fill_list.new.list.items c.in_ok-fill_list.ensures.ok) in
    message_read g.H.Header.grammar c.args.bytes.now (record { header = h; attributes = map g.H.Header.grammar.meaning c.fill_list.new.list.items }) head.0 head.1 list

pub returns-clause-exact : goal.returns-clause-exact
returns-clause-exact g c = λ answered.
    let h = c.in_front-header.result in
    let head = c.in_front-header.ensures in
    let under = g.met.H.Header.under h _ c.context-context.result c.context-context.ensures.governs in
    let looks = under.looks c.args.looks.now c.context-context.new.looks c.fill_list.new.looks c.context-context.ensures.searches (c.in_ok-fill_list.ensures.exact tt) in
    looks_after g.H.Header.grammar c.args.bytes.now h c.args.looks.now c.fill_list.new.looks head.0 head.1 (rw (take_rest, c.size.ensures) at looks)

pub returns-clause-bounded : goal.returns-clause-bounded
returns-clause-bounded g c =
    let under = g.met.H.Header.under c.in_front-header.result _ c.context-context.result c.context-context.ensures.governs in
    let searched = under.searched c.args.looks.now c.context-context.new.looks c.context-context.ensures.searches in
    let twice = rw (take_rest, c.size.ensures) at (searched-read _ c.args.looks.now c.context-context.new.looks c.fill_list.new.looks searched c.fill_list.ensures.walked) in
    subst (λ (n : ℕ). AddsAtMostTwice c.args.looks.now c.fill_list.new.looks n) (length-drop g.H.Header.grammar.layout.size c.args.bytes.now) twice

pub returns-clause-counted : goal.returns-clause-counted
returns-clause-counted g c =
    message-saw g.H.Header.grammar c.args.bytes.now _ c.args.looks.now c.fill_list.new.looks (returns-clause-ok g c) (returns-clause-exact g c tt)
