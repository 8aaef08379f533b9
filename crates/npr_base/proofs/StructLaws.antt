-- What `==` of a struct answers, from what it answers of the fields.
--     and_decides        two tests answer two facts
--     decides_as         the same fact in other words
--     beside             the fields of a struct, one beside the other; the last is `one_equality` (EqualityLaws)
--     struct_equality    whether two structs are equal
use Rattle.std.specs.Prelude.{◌≡◌, Bool, true, false, ◌&&◌}
use Rattle.std.specs.Bool.{Decides}
use Rattle.std.proofs.Common.{refl, sym, ap, true≢false, ◌∙◌}
use Rattle.npr_base.specs.Equality.{IsEquality}
use denote.Struct.Record.{Record}
use denote.Struct.Values.{Values}

pub and_decides : {P Q : Type 0} {b c : Bool} → Decides b P → Decides c Q → Decides (b && c) (P × Q)
and_decides {b = true} h k = (λ e. (h.0 refl, k.0 e), λ p. k.1 p.1)
and_decides {b = false} h k = (λ e. absurd (true≢false (sym e)), λ p. absurd (true≢false (sym (h.1 p.0))))

pub decides_as : {P Q : Type 0} {b : Bool} → (P → Q) → (Q → P) → Decides b P → Decides b Q
decides_as to from h = (λ e. to (h.0 e), λ q. h.1 (from q))

infixr 4 ◌beside◌
pub ◌beside◌ : {A B : Type 0} {s : A → A → Bool} {t : B → B → Bool} → IsEquality s → IsEquality t
    → (p q : A × B) → Decides (s p.0 q.0 && t p.1 q.1) (p ≡ q)
◌beside◌ {A} {B} h k p q =
    decides_as (λ e. λ i. (e.0 i, e.1 i)) (λ e. (ap (λ (x : A × B). x.0) e, ap (λ (x : A × B). x.1) e)) (and_decides (h p.0 q.0) (k p.1 q.1))

-- N is `struct` of the type's module in `specs.contracts`
pub struct_equality : (N : Record) (ghosts : (v : Values N.parts) → N.Ghost v) → ((d : N.D) → N.make (N.as_values d) (ghosts (N.as_values d)) ≡ d)
    → {test : Values N.parts → Values N.parts → Bool} → IsEquality test → (a b : N.D) → Decides (test (N.as_values a) (N.as_values b)) (a ≡ b)
struct_equality N ghosts same h a b =
    decides_as (λ e. sym (same a) ∙ ap (λ (v : Values N.parts). N.make v (ghosts v)) e ∙ same b) (ap N.as_values) (h (N.as_values a) (N.as_values b))
