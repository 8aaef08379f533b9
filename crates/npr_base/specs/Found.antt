-- The first of a list that a function finds something in.
use Rattle.std.specs.Prelude.{◌≡◌, ℕ, List, Option, Some, None, All, MatchOption, slice_get, take}

-- what it finds there, or nothing where it finds nothing in any
abbrev pub IsFirst : {A B : Type 0} → (A → Option B) → List A → Option B → Type 0
IsFirst {A} f xs found =
    MatchOption found (All (λ x. f x ≡ None) xs)
    (λ y. (i : ℕ) × (x : A) × (slice_get xs i ≡ Some x) × (f x ≡ Some y) × All (λ z. f z ≡ None) (take i xs))
