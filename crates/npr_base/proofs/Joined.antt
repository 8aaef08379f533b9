-- What is written of a list, its members one after the other.
--     whole-next, whole-below      of one member more; and of the first so many, which is no longer than of all
--     joined-append, joined-more   of texts that are joined: of two lists; and of one member more, how long
use Rattle.std.proofs.Common.{◌≡◌, ℕ, ◌+◌, ◌<◌, ◌≤◌, List, [], ◌∷◌, ◌++◌, length, get_or, take, drop, refl, sym, ap, ◌∙◌, append_assoc, arith, length-append}
use Rattle.std.proofs.lemmas.List.{take_more, take-append-drop}
use Rattle.npr_base.specs.Lists.{joined}

module _ {A : Type 0} (whole : List A → List ℕ) (append : (xs ys : List A) → whole (xs ++ ys) ≡ whole xs ++ whole ys) where
  pub whole-next : (xs : List A) (i : ℕ) (x : A) → i < length xs → x ≡ get_or xs i x → whole (take (i + 1) xs) ≡ whole (take i xs) ++ whole (x ∷ [])
  whole-next xs i x lt is = ap whole (take_more xs i x lt ∙ ap (λ y. take i xs ++ y ∷ []) (sym is)) ∙ append (take i xs) (x ∷ [])

  pub whole-below : (xs : List A) (i : ℕ) → length (whole (take i xs)) ≤ length (whole xs)
  whole-below xs i =
      let parts = ap whole (sym (take-append-drop i xs)) ∙ append (take i xs) (drop i xs) in
      omega (arith, ap length parts, length-append (whole (take i xs)) (whole (drop i xs)))

module _ {A : Type 0} (text : A → List ℕ) where
  pub joined-append : (xs ys : List A) → joined text (xs ++ ys) ≡ joined text xs ++ joined text ys
  joined-append [] ys = refl
  joined-append (x ∷ xs) ys = ap (λ (w : List ℕ). text x ++ w) (joined-append xs ys) ∙ sym (append_assoc (text x) (joined text xs) (joined text ys))

  pub joined-more : (xs : List A) (i : ℕ) (x : A) → i < length xs → x ≡ get_or xs i x → length (joined text (take (i + 1) xs)) ≡ length (joined text (take i xs)) + length (text x)
  joined-more xs i x lt is =
      omega (arith, ap length (whole-next (joined text) joined-append xs i x lt is), length-append (joined text (take i xs)) (text x ++ []), length-append (text x) [])
