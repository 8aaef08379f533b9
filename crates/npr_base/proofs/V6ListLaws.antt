-- What holds of addresses of sixteen bytes that stand one after the other.
--     same_parts       joined lists are the same in both parts where the first ones are of one length
--     AllOf-append, AllOf-push, AllOf-reverse      each of more, and each in the other order
--     concat-push      one address more
--     length-concat    sixteen bytes each
--     v6_list-one      bytes are one list at most
--     v6_list-bytes    each address of a program's bytes is a program's bytes
use Rattle.std.specs.List.{concat}
use Rattle.std.proofs.Common.{◌≡◌, ℕ, ◌*◌, List, [], ◌∷◌, ◌++◌, length, take, drop, refl, sym, ap, ◌∙◌, arith, length-append, reverse}
use Rattle.std.proofs.lemmas.List.Folds.{concat-append}
use Rattle.std.proofs.lemmas.List.{append-nil, take_at, drop_at, reverse-append}
use Rattle.npr_base.specs.Framing.{IsBytes}
use Rattle.npr_base.specs.Lists.{AllOf}
use Rattle.npr_base.specs.lemmas.List.{IsBytes-left, IsBytes-right}

pub same_parts : (a b c d : List ℕ) → length a ≡ length c → a ++ b ≡ c ++ d → (a ≡ c) × (b ≡ d)
same_parts a b c d size e =
    let first = sym (take_at a b (length a) refl) ∙ ap (take (length a)) e ∙ take_at c d (length a) (sym size) in
    let second = sym (drop_at a b (length a) refl) ∙ ap (drop (length a)) e ∙ drop_at c d (length a) (sym size) in
    (first, second)

module _ {A : Type 0} (P : A → Type 0) where
  pub AllOf-append : (xs ys : List A) → AllOf P xs → AllOf P ys → AllOf P (xs ++ ys)
  AllOf-append [] ys p q = q
  AllOf-append (x ∷ xs) ys p q = (p.0, AllOf-append xs ys p.1 q)

  pub AllOf-push : (xs : List A) (y : A) → AllOf P xs → P y → AllOf P (xs ++ y ∷ [])
  AllOf-push xs y p q = AllOf-append xs (y ∷ []) p (q, tt)

  pub AllOf-reverse : (xs : List A) → AllOf P xs → AllOf P (reverse xs)
  AllOf-reverse [] p = tt
  AllOf-reverse (x ∷ xs) p = rw (reverse-append (x ∷ []) xs) (AllOf-append (reverse xs) (x ∷ []) (AllOf-reverse xs p.1) (p.0, tt))

pub concat-push : (xs : List (List ℕ)) (x : List ℕ) → concat (xs ++ x ∷ []) ≡ concat xs ++ x
concat-push xs x = concat-append xs (x ∷ []) ∙ ap (λ (w : List ℕ). concat xs ++ w) (append-nil x)

pub length-concat : (xs : List (List ℕ)) → AllOf (λ a. length a ≡ 16) xs → length (concat xs) ≡ 16 * length xs
length-concat [] p = refl
length-concat (x ∷ xs) p = omega (arith, length-append x (concat xs), p.0, length-concat xs p.1)

pub v6_list-one : (xs ys : List (List ℕ)) → AllOf (λ a. length a ≡ 16) xs → AllOf (λ a. length a ≡ 16) ys → concat xs ≡ concat ys → xs ≡ ys
v6_list-one [] [] p q e = refl
v6_list-one [] (y ∷ ys) p q e = absurd (omega (arith, ap length e, length-append y (concat ys), q.0))
v6_list-one (x ∷ xs) [] p q e = absurd (omega (arith, ap length e, length-append x (concat xs), p.0))
v6_list-one (x ∷ xs) (y ∷ ys) p q e =
    let s = same_parts x (concat xs) y (concat ys) (p.0 ∙ sym q.0) e in
    λ i. s.0 i ∷ v6_list-one xs ys p.1 q.1 s.1 i

pub v6_list-bytes : (xs : List (List ℕ)) → IsBytes (concat xs) → AllOf IsBytes xs
v6_list-bytes [] is = tt
v6_list-bytes (x ∷ xs) is = (IsBytes-left x (concat xs) is, v6_list-bytes xs (IsBytes-right x (concat xs) is))
