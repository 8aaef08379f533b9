-- A signed number that no row has.
use Rattle.std.proofs.Common.{◌≡◌, ℤ, Bool, true, false, List, [], ◌∷◌, refl, ◌∙◌}
use Rattle.std.specs.Prelude.{◌≢◌, if◌then◌else◌}
use Rattle.std.specs.Ordering.{int_eq}
use Rattle.std.specs.Cmp.{signed_Decides}
use Rattle.npr_base.specs.Rows.{signed_form_in}

-- the number of no row
abbrev pub IsAbsent : {V : Type 0} → List (ℤ × V) → ℤ → Type 0
IsAbsent [] d = Unit {0}
IsAbsent (row ∷ rows) d = (d ≢ row.0) × IsAbsent rows d

if_not : {V : Type 0} (b : Bool) (x y : V) → (b ≡ true → ⊥) → (if b then x else y) ≡ y
if_not true x y h = absurd (h refl)
if_not false x y h = refl

pub signed_form_in-other : {V : Type 0} (other : ℤ → V) (rows : List (ℤ × V)) (d : ℤ) → IsAbsent rows d → signed_form_in other rows d ≡ other d
signed_form_in-other other [] d h = refl
signed_form_in-other other (row ∷ rows) d h =
    if_not (int_eq d row.0) row.1 (signed_form_in other rows d) (λ e. h.0 ((signed_Decides d row.0).0 e)) ∙ signed_form_in-other other rows d h.1
