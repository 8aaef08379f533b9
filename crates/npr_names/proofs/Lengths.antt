-- How long a name is at most.
use Rattle.std.proofs.Common.{◌≡◌, ◌≤◌, ℕ, Bool, true, ◌&&◌, nat_lt, List, [], ◌∷◌, length, Some, slice_get, unwrap_or, zero, suc, refl, arith}
use Rattle.npr_base.specs.declared.attribute_set.AttributeSet.{AttributeSet}
use Rattle.npr_base.specs.contracts.attribute_set.AttributeSet.{the_type as the_sets}
use Rattle.npr_names.specs.Names.{lists, names_of}
use denote.Enum.Declared.{tag_of}

-- each has fewer than 48 bytes
abbrev fit : List (List ℕ) → Bool
fit [] = true
fit (x ∷ xs) = nat_lt (length x) 48 && fit xs

abbrev all_fit : List (List (List ℕ)) → Bool
all_fit [] = true
all_fit (x ∷ xs) = fit x && all_fit xs

one_fits : (names : List (List ℕ)) (n : ℕ) (name : List ℕ) → fit names ≡ true → slice_get names n ≡ Some name → length name ≤ 47
one_fits [] n name all at = grind (arith, at)
one_fits (x ∷ xs) zero name all at = grind (arith, all, at)
one_fits (x ∷ xs) (suc n) name all at = one_fits xs n name (grind (arith, all)) at

each_fits : (all : List (List (List ℕ))) (n : ℕ) → all_fit all ≡ true → fit (unwrap_or (slice_get all n) []) ≡ true
each_fits [] n fits = refl
each_fits (x ∷ xs) zero fits = grind (arith, fits)
each_fits (x ∷ xs) (suc n) fits = each_fits xs n (grind (arith, fits))

pub name_fits : (set : AttributeSet) (n : ℕ) (name : List ℕ) → slice_get (names_of set) n ≡ Some name → length name ≤ 47
unfolding names_of
name_fits set n name at = one_fits (names_of set) n name (each_fits lists (tag_of the_sets set) refl) at
