-- Options of Geneve, written one after the other.
use Rattle.std.proofs.Common.{◌≡◌, ℕ, ◌+◌, ◌<◌, None, List, [], ◌∷◌, ◌++◌, length, map, get_or, take, drop, refl, sym, ap, ◌∙◌}
use Rattle.std.proofs.lemmas.List.{drop_more, map-append}
use Rattle.npr_base.specs.Framing.{encoding}
use Rattle.npr_base.specs.Lists.{encodings, first_unfit, option_or}
use Rattle.npr_base.specs.lemmas.Fit.{none_both}
use Rattle.npr_base.proofs.Joined.{whole-next, joined-append}
use Rattle.npr_encapsulation.specs.Geneve.{Geneve, Child, children_of, child_item, child_unfit, option_bytes, option_unfit}

children-append : (xs ys : List Geneve) → children_of (xs ++ ys) ≡ children_of xs ++ children_of ys
children-append [] ys = refl
children-append (x ∷ xs) ys = ap (λ (cs : List Child). children_of (x ∷ []) ++ cs) (children-append xs ys)

pub bytes-append : (xs ys : List Geneve) → option_bytes (xs ++ ys) ≡ option_bytes xs ++ option_bytes ys
bytes-append xs ys = ap (encodings child_item) (children-append xs ys) ∙ joined-append (λ c. encoding (child_item c)) (children_of xs) (children_of ys)

-- V is how an option lies in memory
module _ {V : Type 0} (view : V → Geneve) where
  abbrev pub bytes : List V → List ℕ
  bytes xs = option_bytes (map view xs)

  pub bytes-both : (xs ys : List V) → bytes (xs ++ ys) ≡ bytes xs ++ bytes ys
  bytes-both xs ys = ap option_bytes (map-append view xs ys) ∙ bytes-append (map view xs) (map view ys)

  pub bytes-next : (xs : List V) (i : ℕ) (x : V) → i < length xs → x ≡ get_or xs i x → bytes (take (i + 1) xs) ≡ bytes (take i xs) ++ bytes (x ∷ [])
  bytes-next = whole-next bytes bytes-both

  unfit-rest : (xs : List V) (i : ℕ) (x : V) → i < length xs → x ≡ get_or xs i x → first_unfit child_unfit (children_of (map view (drop i xs))) ≡ option_or (option_unfit (view x)) (first_unfit child_unfit (children_of (map view (drop (i + 1) xs))))
  unfit-rest xs i x lt is = ap (λ (ys : List V). first_unfit child_unfit (children_of (map view ys))) (drop_more xs i x lt ∙ ap (λ y. y ∷ drop (i + 1) xs) (sym is))

  pub unfit-past : (xs : List V) (i : ℕ) (x : V) → i < length xs → x ≡ get_or xs i x → option_unfit (view x) ≡ None → first_unfit child_unfit (children_of (map view (drop i xs))) ≡ first_unfit child_unfit (children_of (map view (drop (i + 1) xs)))
  unfit-past xs i x lt is fits = unfit-rest xs i x lt is ∙ ap (λ o. option_or o (first_unfit child_unfit (children_of (map view (drop (i + 1) xs))))) fits

  pub unfit-none : (xs : List V) (i : ℕ) (x : V) → i < length xs → x ≡ get_or xs i x → first_unfit child_unfit (children_of (map view (drop i xs))) ≡ None → (option_unfit (view x) ≡ None) × (first_unfit child_unfit (children_of (map view (drop (i + 1) xs))) ≡ None)
  unfit-none xs i x lt is h = none_both (option_unfit (view x)) (first_unfit child_unfit (children_of (map view (drop (i + 1) xs)))) (sym (unfit-rest xs i x lt is) ∙ h)
