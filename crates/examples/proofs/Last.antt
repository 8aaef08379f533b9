-- One more at the end of a list.
use Rattle.std.specs.Option.{option_or}
use Rattle.std.proofs.Common.{◌≡◌, List, [], ◌∷◌, ◌++◌, Option, Some, None, refl, sym, ap, ◌∙◌}
use Rattle.examples.specs.OneByOne.{last_of}

or_none : {B : Type 0} (o : Option B) → option_or o None ≡ o
or_none None = refl
or_none (Some x) = refl

or_or : {B : Type 0} (o p q : Option B) → option_or (option_or o p) q ≡ option_or o (option_or p q)
or_or None p q = refl
or_or (Some x) p q = refl

pub last_push : {A B : Type 0} (f : A → Option B) (xs : List A) (x : A) → last_of f (xs ++ x ∷ []) ≡ option_or (f x) (last_of f xs)
last_push f [] x = sym (or_none (f x))
last_push {B = B} f (y ∷ xs) x = ap (λ (o : Option B). option_or o (f y)) (last_push f xs x) ∙ or_or (f x) (last_of f xs) (f y)
