-- A list of what is written, member by member.
use Rattle.std.proofs.Common.{◌≡◌, ℕ, ◌+◌, ◌<◌, Option, Some, None, List, [], ◌∷◌, ◌++◌, length, map, get_or, Ok, drop, refl, sym, ap, ◌∙◌}
use Rattle.npr_base.specs.Framing.{Item, encoding}
use Rattle.std.proofs.lemmas.List.{drop_more}
use Rattle.npr_base.specs.declared.refusal.EmitError.{EmitError}
use Rattle.npr_base.specs.lemmas.Fit.{none_both}
use Rattle.npr_base.specs.Lists.{encodings, first_unfit, option_or, checked, overlong, list_unfit}

-- past a member that can be written
pub first-past : {A : Type 0} (unfit : A → Option EmitError) (xs : List A) (i : ℕ) (x : A) → i < length xs → x ≡ get_or xs i x → unfit x ≡ None → first_unfit unfit (drop i xs) ≡ first_unfit unfit (drop (i + 1) xs)
first-past unfit xs i x lt is fits =
    let e : drop i xs ≡ x ∷ drop (i + 1) xs = drop_more xs i x lt ∙ ap (λ y. y ∷ drop (i + 1) xs) (sym is) in
    ap (first_unfit unfit) e ∙ ap (λ o. option_or o (first_unfit unfit (drop (i + 1) xs))) fits

pub checked-ok : (o : Option EmitError) (n m : ℕ) → Ok m ≡ checked o n → (o ≡ None) × (m ≡ n)
checked-ok None n m e = (refl, cc)
checked-ok (Some f) n m e = absurd cc

pub first-none : {A : Type 0} (unfit : A → Option EmitError) (xs : List A) (i : ℕ) (x : A) → i < length xs → x ≡ get_or xs i x → first_unfit unfit (drop i xs) ≡ None → (unfit x ≡ None) × (first_unfit unfit (drop (i + 1) xs) ≡ None)
first-none unfit xs i x lt is h =
    let e : drop i xs ≡ x ∷ drop (i + 1) xs = drop_more xs i x lt ∙ ap (λ y. y ∷ drop (i + 1) xs) (sym is) in
    none_both (unfit x) (first_unfit unfit (drop (i + 1) xs)) (sym (ap (first_unfit unfit) e) ∙ h)

-- members seen by what they mean
pub encodings-seen : {A M : Type 0} (item : A → Item) (written : M → Item) (meaning : A → M) → ((a : A) → item a ≡ written (meaning a)) → (xs : List A) → encodings item xs ≡ encodings written (map meaning xs)
encodings-seen item written meaning same [] = refl
encodings-seen item written meaning same (x ∷ xs) = ap (λ (i : Item). encoding i ++ encodings item xs) (same x) ∙ ap (λ (w : List ℕ). encoding (written (meaning x)) ++ w) (encodings-seen item written meaning same xs)

first-seen : {A M : Type 0} (unfit : A → Option EmitError) (meaning_unfit : M → Option EmitError) (meaning : A → M) → ((a : A) → unfit a ≡ meaning_unfit (meaning a)) → (xs : List A) → first_unfit unfit xs ≡ first_unfit meaning_unfit (map meaning xs)
first-seen unfit meaning_unfit meaning same [] = refl
first-seen unfit meaning_unfit meaning same (x ∷ xs) = ap (λ o. option_or o (first_unfit unfit xs)) (same x) ∙ ap (option_or (meaning_unfit (meaning x))) (first-seen unfit meaning_unfit meaning same xs)

pub list-seen : {A M : Type 0} (unfit : A → Option EmitError) (meaning_unfit : M → Option EmitError) (item : A → Item) (written : M → Item) (meaning : A → M)
    → ((a : A) → unfit a ≡ meaning_unfit (meaning a)) → ((a : A) → item a ≡ written (meaning a)) → (xs : List A) → list_unfit unfit item xs ≡ list_unfit meaning_unfit written (map meaning xs)
list-seen unfit meaning_unfit item written meaning u w xs =
    ap (λ o. option_or o (overlong (length (encodings item xs)))) (first-seen unfit meaning_unfit meaning u xs) ∙ ap (λ (e : List ℕ). option_or (first_unfit meaning_unfit (map meaning xs)) (overlong (length e))) (encodings-seen item written meaning w xs)
