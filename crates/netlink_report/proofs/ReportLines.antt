-- The lines of a report, one after another, and the attributes that a walk found.
use Rattle.std.specs.Prelude.{None, Some}
use Rattle.std.proofs.Common.{◌≡◌, ℕ, List, [], ◌∷◌, ◌++◌, length, Err, append-nil, append_assoc, ap, sym, subst, ◌∙◌}
use Rattle.netlink_packet_route.specs.Framing.{Item, Cut, Passes, Step}
use Rattle.netlink_packet_route.specs.FrontLaws.{Cut-same, Cut-stops}
use Rattle.netlink_packet_route.specs.declared.framing.DecodeError.{DecodeError}
use Rattle.netlink_report.specs.Report.{line_text, lines_text}

pub lines_text-append : (xs : List Item) (x : Item) → lines_text (xs ++ x ∷ []) ≡ lines_text xs ++ line_text x.kind (length x.value)
lines_text-append [] x = append-nil (line_text x.kind (length x.value))
lines_text-append (y ∷ ys) x = ap (λ (t : List ℕ). line_text y.kind (length y.value) ++ t) (lines_text-append ys x) ∙ sym (append_assoc (line_text y.kind (length y.value)) (lines_text ys) (line_text x.kind (length x.value)))

-- where the bytes are attributes, a walk ends behind the last
pub walked : (bytes rest after : List ℕ) (passed items : List Item) → Passes bytes passed rest → Step rest None after → Cut bytes items → passed ≡ items
walked bytes rest after passed items p (none, end) cut = Cut-same passed items bytes (subst (λ (r : List ℕ). Passes bytes passed r) none p) cut

-- and meets no fault
pub unstopped : (bytes rest after : List ℕ) (passed items : List Item) (e : DecodeError) → Passes bytes passed rest → Step rest (Some (Err e)) after
    → Cut bytes items → ⊥
unstopped bytes rest after passed items e p (some, bad, end) cut = Cut-stops items passed bytes rest e cut p some bad
