use Rattle.std.proofs.Common.{◌≡◌, ◌≤◌, ◌+◌, ◌-◌, ◌++◌, length, take, vec_len, ap, sym, ◌∙◌, arith, rules, length-take}
use borrow.Rule.Slice.PartMut.{post_of}
use Rattle.std.proofs.lemmas.List.{with_items_is, places, take-append-le}
use Rattle.std.proofs.Math.Seq.{take-append-add}
use Rattle.byte_window.specs.Window.{between}
use Rattle.byte_window.proofs.window.Window.fill.Goals as goal

pub returns-in-Ok-clause-more : goal.returns-in-Ok-clause-more
returns-in-Ok-clause-more g c =
    let window = c.shift.new.self in
    let all = c.as_mut_slice.result.now in
    let buf = c.read.new.buf in
    let count = c.in-Ok.count in
    let front = take window.end all in
    let post = post_of window.end (length all - window.end) all in
    let inside : window.end ≤ vec_len window.room = search rules in
    let long : length all ≡ vec_len window.room = search rules in
    let room : length (front ++ (buf ++ post)) ≡ vec_len window.room = search (rules, places) in
    let given : count ≤ length buf = search rules in
    let end : window.end + count - 0 ≡ length front + count = omega (arith, length-take window.end all, inside, long) in
    let same : take window.end window.room.items ≡ between window.room.items 0 window.end = ap (λ n. take n window.room.items) (omega arith) in
    let kept = ap (take window.end) c.as_mut_slice.ensures.value ∙ same ∙ sym (ap (λ s. between window.room.items s window.end) c.shift.ensures.front) ∙ c.shift.ensures.same in
    let more = ap (λ n. take n (front ++ (buf ++ post))) end ∙ take-append-add front (buf ++ post) count ∙ ap (λ xs. front ++ xs) (take-append-le count buf post given) in
    let whole = front ++ (buf ++ post) in
    let moved = ap (λ xs. between xs window.start (window.end + count)) (with_items_is window.room whole room) ∙ ap (λ s. between whole s (window.end + count)) c.shift.ensures.front in
    let size : length (take count buf) ≡ count = omega (arith, length-take count buf, given) in
    (take count buf, rw size (search rules), moved ∙ more ∙ ap (λ xs. xs ++ take count buf) kept, search rules)
