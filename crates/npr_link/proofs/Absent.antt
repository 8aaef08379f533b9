-- A number that no row has.
use Rattle.std.specs.Prelude.{◌≢◌, nat_eq, if◌then◌else◌}
use Rattle.std.specs.Cmp.{unsigned_Decides}
use Rattle.std.proofs.Common.{◌≡◌, ℕ, Bool, true, false, List, [], ◌∷◌, refl, ◌∙◌}
use Rattle.npr_base.specs.Rows.{form_in}

-- the number of no row
abbrev pub IsAbsent : {V : Type 0} → List (ℕ × V) → ℕ → Type 0
IsAbsent [] d = Unit {0}
IsAbsent (row ∷ rows) d = (d ≢ row.0) × IsAbsent rows d

if_not : {V : Type 0} (b : Bool) (x y : V) → (b ≡ true → ⊥) → (if b then x else y) ≡ y
if_not true x y h = absurd (h refl)
if_not false x y h = refl

pub form_in-other : {V : Type 0} (other : ℕ → V) (rows : List (ℕ × V)) (d : ℕ) → IsAbsent rows d → form_in other rows d ≡ other d
form_in-other other [] d h = refl
form_in-other other (row ∷ rows) d h =
    if_not (nat_eq d row.0) row.1 (form_in other rows d) (λ e. h.0 ((unsigned_Decides d row.0).0 e)) ∙ form_in-other other rows d h.1
