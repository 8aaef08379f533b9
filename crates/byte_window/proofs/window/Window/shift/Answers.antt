use Rattle.std.proofs.Common.{◌≡◌, ◌≤◌, ◌+◌, ◌-◌, length, take, drop, vec_len, ap, ◌∙◌, arith, rules, length-drop}
use lib.Seq.{paste}
use Rattle.std.proofs.lemmas.List.{with_items_is, places}
use Rattle.std.proofs.lemmas.List.Edits.{take-paste}
use Rattle.byte_window.proofs.window.Window.shift.Goals as goal

pub returns-clause-same : goal.returns-clause-same
returns-clause-same g c =
    let all = c.as_mut_slice.result.now in
    let start = c.args.self.now.start in
    let end = c.args.self.now.end in
    let left = end - start in
    let long : length all ≡ vec_len c.args.self.now.room = search rules in
    let ordered : start ≤ end = search rules in
    let inside : end ≤ vec_len c.args.self.now.room = search rules in
    let rest : length (drop start all) ≡ length all - start = length-drop start all in
    let whole : left - 0 ≡ 0 + left = omega arith in
    ap (take (left - 0)) (with_items_is c.args.self.now.room c.copy_within.new.self (search (rules, places)) ∙ c.copy_within.ensures.after)
    ∙ ap (λ k. take k (paste all 0 (drop start all) left)) whole
    ∙ take-paste all 0 (drop start all) left (omega (arith, long, ordered, inside)) (omega (arith, long, ordered, inside, rest))
    ∙ ap (λ xs. take left (drop start xs)) c.as_mut_slice.ensures.value
