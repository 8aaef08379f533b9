-- What is read is coherent, and what is coherent is read again as it is.
use Rattle.std.specs.Prelude.{slice_get}
use Rattle.std.proofs.Common.{◌≡◌, ℕ, zero, suc, ◌+◌, ◌-◌, ◌≤◌, List, [], ◌∷◌, ◌++◌, length, get_or, take, drop, replicate, refl, sym, ap, ◌∙◌, subst, inl, inr, arith, length-append, length-take}
use Rattle.std.proofs.lemmas.Bool.{cases_lt}
use Rattle.std.proofs.lemmas.List.{take-append-drop, drop_all, drop_more, append-nil, take_all, take_at, drop_at, get_or_past}
use Rattle.npr_base.specs.Numbering.{IsFormed}
use Rattle.npr_link_statistics.specs.Coherent.{IsCoherent}
use Rattle.npr_link_statistics.specs.Grown.{Grown, filled, grown_of, growing, number_or, numbers_of}
use Rattle.npr_link_statistics.proofs.Places.{filled-length}

number-is : {A : Type 0} (none : A) (xs : List A) (at : ℕ) → number_or none (slice_get xs at) ≡ get_or xs at none
number-is none [] at = refl
number-is none (x ∷ xs) zero = refl
number-is none (x ∷ xs) (suc at) = number-is none xs at

module _ {A : Type 0} (none : A) where
  abbrev padded : ℕ → List A → List A
  padded n xs = take n xs ++ replicate (n - length xs) none

  padded-none : (n : ℕ) → padded (suc n) [] ≡ none ∷ padded n []
  padded-none n =
      let a : suc n - 0 ≡ suc n = omega arith in
      let b : n ≡ n - 0 = omega arith in
      let c : take n [] ≡ [] = take_all n [] (omega arith) in
      ap (λ (k : ℕ). replicate k none) a ∙ ap (λ (k : ℕ). none ∷ replicate k none) b ∙ ap (λ (ys : List A). none ∷ (ys ++ replicate (n - 0) none)) (sym c)

  padded-some : (n : ℕ) (x : A) (xs : List A) → padded (suc n) (x ∷ xs) ≡ x ∷ padded n xs
  padded-some n x xs = let e : suc n - suc (length xs) ≡ n - length xs = omega arith in ap (λ (k : ℕ). x ∷ (take n xs ++ replicate k none)) e

  filled-is : (n at : ℕ) (xs : List A) → filled none n at xs ≡ padded n (drop at xs)
  filled-is zero at xs = let e : 0 ≡ 0 - length (drop at xs) = omega arith in ap (λ (k : ℕ). replicate k none) e
  filled-is (suc n) at xs = elim (cases_lt at (length xs)) [
    | inl lt ↦
        (λ i. number-is none xs at i ∷ filled-is n (at + 1) xs i)
        ∙ sym (padded-some n (get_or xs at none) (drop (at + 1) xs)) ∙ ap (padded (suc n)) (sym (drop_more xs at none lt))
    | inr ge ↦
        let past : get_or xs at none ≡ none = get_or_past xs at none ge in
        let here : drop (at + 1) xs ≡ [] = drop_all (at + 1) xs (omega (arith, ge)) in
        let gone : drop at xs ≡ [] = drop_all at xs ge in
        (λ i. (number-is none xs at ∙ past) i ∷ (filled-is n (at + 1) xs ∙ ap (padded n) here) i)
        ∙ sym (padded-none n) ∙ ap (padded (suc n)) (sym gone)
  ]

  module _ (n : ℕ) where
    read-coherent : (ys : List A) → IsCoherent none n (grown_of none n ys)
    read-coherent ys =
        let count : length (take n ys) ≡ n - (n - length ys) = omega (arith, length-take n ys) in
        record {
          fields = filled-length none n 0 ys;
          missing = omega arith;
          empty = ap (drop (n - (n - length ys))) (filled-is n 0 ys) ∙ drop_at (take n ys) (replicate (n - length ys) none) (n - (n - length ys)) count;
          last = λ lt. drop_all n ys (omega (arith, lt));
        }

    same : (fields more ys : List A) (missing : ℕ) → filled none n 0 ys ≡ fields → n - length ys ≡ missing → drop n ys ≡ more
        → record { fields = fields; missing = missing; more = more } ≡ grown_of none n ys
    same fields more ys missing a b c = λ i. record { fields = sym a i; missing = sym b i; more = sym c i }

    whole : (fields more : List A) → length fields ≡ n → record { fields = fields; missing = 0; more = more } ≡ grown_of none n (take (n - 0) fields ++ more)
    whole fields more len =
        let none-left : n - length (fields ++ more) ≡ 0 = omega (arith, len, length-append fields more) in
        let all : take (n - 0) fields ≡ fields = take_all (n - 0) fields (omega (arith, len)) in
        let front : padded n (fields ++ more) ≡ fields =
        ap (λ (k : ℕ). take n (fields ++ more) ++ replicate k none) none-left ∙ append-nil (take n (fields ++ more)) ∙ take_at fields more n len in
        same fields more (fields ++ more) 0 (filled-is n 0 (fields ++ more) ∙ front) none-left (drop_at fields more n len)
        ∙ ap (λ (xs : List A). grown_of none n (xs ++ more)) (sym all)

    short : (fields : List A) (missing : ℕ) → length fields ≡ n → missing ≤ n → drop (n - missing) fields ≡ replicate missing none
        → record { fields = fields; missing = missing; more = [] } ≡ grown_of none n (take (n - missing) fields ++ [])
    short fields missing len le empty =
        let xs : List A = take (n - missing) fields in
        let count : length xs ≡ n - missing = omega (arith, len, length-take (n - missing) fields) in
        let left : n - length xs ≡ missing = omega (arith, count, le) in
        let all : take n xs ≡ xs = take_all n xs (omega (arith, count)) in
        let front : padded n xs ≡ fields =
        (λ i. all i ++ replicate (left i) none) ∙ ap (λ (ys : List A). xs ++ ys) (sym empty) ∙ take-append-drop (n - missing) fields in
        same fields [] xs missing (filled-is n 0 xs ∙ front) left (drop_all n xs (omega (arith, count))) ∙ ap (grown_of none n) (sym (append-nil xs))

    again : (fields more : List A) (missing : ℕ) → IsCoherent none n (record { fields = fields; missing = missing; more = more })
        → record { fields = fields; missing = missing; more = more } ≡ grown_of none n (take (n - missing) fields ++ more)
    again fields more zero p = whole fields more p.fields
    again fields more (suc m) p =
        subst (λ (ys : List A). record { fields = fields; missing = suc m; more = ys } ≡ grown_of none n (take (n - suc m) fields ++ ys))
        (sym (p.last (omega arith))) (short fields (suc m) p.fields p.missing p.empty)

    pub formed-coherent : (g : Grown A) → IsFormed (growing none n) g → IsCoherent none n g
    formed-coherent g is = subst (IsCoherent none n) (sym is) (read-coherent (numbers_of n g))

    pub coherent-formed : (g : Grown A) → IsCoherent none n g → IsFormed (growing none n) g
    coherent-formed g p = again g.fields g.more g.missing p
