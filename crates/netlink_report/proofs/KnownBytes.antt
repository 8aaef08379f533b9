-- What two writes in a row append, and what a read tells of what was left.
use Rattle.std.proofs.Common.{ℕ, ◌+◌, ◌-◌, ◌<◌, ◌≡◌, List, ◌++◌, length, take, drop, Option, Some, None, arith, append_assoc, take-add, take_all, length-append, length-drop, ◌∙◌, ap, sym}
use Rattle.std.specs.Io.KnownBytes.{Appends, Consumes}
use Rattle.netlink_report.specs.Run.{SomethingLeft}

-- appending a text's first bytes, and then bytes
Appends-then : (before middle after : Option (List ℕ)) (first second both : List ℕ)
    → Appends before middle first → Appends middle after second → first ++ second ≡ both
    → Appends before after both
Appends-then None middle after first second both a b e = tt
Appends-then (Some xs) None after first second both a b e = absurd a
Appends-then (Some xs) (Some ys) None first second both a b e = absurd b
Appends-then (Some xs) (Some ys) (Some zs) first second both a b e =
    b ∙ ap (λ (bytes : List ℕ). bytes ++ second) a ∙ append_assoc xs first second ∙ ap (λ (bytes : List ℕ). xs ++ bytes) e

-- a text's first bytes, and then the next
pub Appends-take : (before middle after : Option (List ℕ)) (text : List ℕ) (done count : ℕ)
    → Appends before middle (take done text)
    → Appends middle after (take count (take (length text - done) (drop done text)))
    → Appends before after (take (done + count) text)
Appends-take before middle after text done count first second =
    let whole : take (length text - done) (drop done text) ≡ drop done text =
    take_all (length text - done) (drop done text) (omega (arith, length-drop done text)) in
    Appends-then before middle after (take done text) (take count (drop done text)) (take (done + count) text)
    first (rw whole at second) (sym (take-add done count text))

-- where something was read, there was something
pub something_read : (before after : Option (List ℕ)) (bytes : List ℕ) → Consumes before after bytes → 0 < length bytes → SomethingLeft before
something_read None after bytes taken some = tt
something_read (Some xs) None bytes taken some = absurd taken
something_read (Some xs) (Some ys) bytes taken some = omega (arith, ap length taken, length-append bytes ys, some)

-- and where something is left
pub something_left : (before after : Option (List ℕ)) (bytes : List ℕ) → Consumes before after bytes → SomethingLeft after → SomethingLeft before
something_left None after bytes taken left = tt
something_left (Some xs) None bytes taken left = absurd taken
something_left (Some xs) (Some ys) bytes taken left = omega (arith, ap length taken, length-append bytes ys, left)
