-- What a derived `==` of an enum answers, from what it answers at each variant: one fact a variant with fields, and none for a pair of variants.
--     enum_equality      it answers whether two values are equal
--     one_equality       the fact for a variant of one field
--     bare_equality      it answers that of an enum without fields
use Rattle.std.specs.Prelude.{◌≡◌, Bool, true, false, List, [], ◌∷◌, ⊤, ◌⊎◌, ◌&&◌}
use Rattle.std.specs.Bool.{Decides}
use Rattle.std.specs.Cmp.{first_so, second_so}
use Rattle.std.proofs.Common.{refl, sym, ap, inl, inr, ⊎_elim, true≢false}
use Rattle.npr_base.specs.Equality.{IsEquality}
use denote.Struct.Field.{Field}
use denote.Enum.Bare.{Bare, sameb, same_true, true_same}
use denote.Enum.Declared.{Declared, Record, left_or, right_or, values_one}
use denote.Enum.Compared.{Each, by}

-- at each variant with no field the answer is true
abbrev pub bare_hold : (Fss : List (List Field)) → Each Bool Fss → Bool
bare_hold [] tests = true
bare_hold ([] ∷ Fss) tests = tests.0 tt tt && bare_hold Fss tests.1
bare_hold ((F ∷ Fs) ∷ Fss) tests = bare_hold Fss tests.1

-- at each variant with fields the answer is whether they are equal
abbrev pub FieldsDecide : (Fss : List (List Field)) → Each Bool Fss → Type 0
FieldsDecide [] tests = ⊤
FieldsDecide ([] ∷ Fss) tests = FieldsDecide Fss tests.1
FieldsDecide ((F ∷ Fs) ∷ Fss) tests = IsEquality tests.0 × FieldsDecide Fss tests.1

abbrev on_left : {A B : Type 0} → A ⊎ B → Bool
on_left (inl x) = true
on_left (inr y) = false

-- the first variant, and the later ones
first_or_later : {A B : Type 0} (test : A → A → Bool) (later : B → B → Bool) → IsEquality test → IsEquality later → (c d : A ⊎ B)
    → Decides (⊎_elim (λ x. ⊎_elim (λ y. test x y) (λ _. false) d) (λ x. ⊎_elim (λ _. false) (λ y. later x y) d) c) (c ≡ d)
first_or_later test later h k (inl x) (inl y) = (λ e. ap inl ((h x y).0 e), λ e. (h x y).1 (ap (left_or x) e))
first_or_later test later h k (inl x) (inr y) = (λ e. absurd (true≢false (sym e)), λ e. absurd (true≢false (ap on_left e)))
first_or_later test later h k (inr x) (inl y) = (λ e. absurd (true≢false (sym e)), λ e. absurd (true≢false (sym (ap on_left e))))
first_or_later test later h k (inr x) (inr y) = (λ e. ap inr ((k x y).0 e), λ e. (k x y).1 (ap (right_or x) e))

choices_equality : (Fss : List (List Field)) (tests : Each Bool Fss) → bare_hold Fss tests ≡ true → FieldsDecide Fss tests
    → IsEquality (by false false Fss tests)
choices_equality [] tests bare all = λ c d. absurd c
choices_equality ([] ∷ Fss) tests bare all =
    let here = first_so (tests.0 tt tt) (bare_hold Fss tests.1) bare in
    let later = choices_equality Fss tests.1 (second_so (tests.0 tt tt) (bare_hold Fss tests.1) bare) all in
    first_or_later tests.0 (by false false Fss tests.1) (λ x y. (λ e. refl, λ e. here)) later
choices_equality ((F ∷ Fs) ∷ Fss) tests bare all = first_or_later tests.0 (by false false Fss tests.1) all.0 (choices_equality Fss tests.1 bare all.1)

-- N is `enum` of the type's module in `specs.contracts`
pub enum_equality : (N : Record) (tests : Each Bool N.parts) → bare_hold N.parts tests ≡ true → FieldsDecide N.parts tests → (a b : N.D)
    → Decides (by false false N.parts tests (N.as_values a) (N.as_values b)) (a ≡ b)
enum_equality N tests bare all a b =
    let h = choices_equality N.parts tests bare all (N.as_values a) (N.as_values b) in
    (λ e. values_one N a b (h.0 e), λ e. h.1 (ap N.as_values e))

pub one_equality : {A : Type 0} {test : A → A → Bool} → IsEquality test → (x y : A × Unit {0}) → Decides (test x.0 y.0) (x ≡ y)
one_equality {A} h x y = (λ e. λ i. ((h x.0 y.0).0 e i, tt), λ e. (h x.0 y.0).1 (ap (λ (v : A × Unit {0}). v.0) e))

-- of an enum whose variants hold nothing; D is `the_type` of its module in `specs.contracts`
pub bare_equality : (D : Declared) → Bare D.parts → (a b : D.D) → Decides (sameb D a b) (a ≡ b)
bare_equality D bare a b = (same_true D bare a b, true_same D a b)
