-- What a derived `==` of an enum answers where its values mean something else, as a vector means the list of its
-- items: one fact a variant, and none for a pair of variants.
--     enum_meaning       it answers whether two values mean the same; `order` numbers the meanings' variants in their order
--     enum_meaning_at    the same of a type that holds itself
--     one_meaning, one_meaning_by      the fact for a variant of one field
--     text_equality      of a text, by its bytes
--     items_equality     of a vector, by the list of its items
--     items_meaning      of a vector, by the list of what its items mean
use Rattle.std.specs.Prelude.{◌≡◌, ℕ, ◌+◌, ◌≤◌, Bool, false, List, [], ◌∷◌, map, ⊤, ◌&&◌}
use Rattle.std.specs.Bool.{Decides}
use Rattle.std.specs.Cmp.{first_so, second_so}
use Rattle.std.specs.Cmp.Lexicographic.{pointwise, pointwise_decides, bytes_decides}
use Rattle.std.specs.Str.{bytes_eq}
use Rattle.std.specs.String.{string_bytes}
use Rattle.std.specs.declared.alloc.Global.{Global}
use Rattle.std.specs.declared.string.String.{String}
use Rattle.std.specs.declared.vec.Vec.{Vec}
use Rattle.std.proofs.Common.{refl, sym, ap, ◌∙◌, inl, inr, true≢false, arith}
use Rattle.npr_base.specs.Equality.{IsEquality, IsEqualityOf}
use denote.Struct.Field.{Field}
use denote.Struct.Values.{Values}
use denote.Enum.Declared.{Record, Choice}
use denote.Enum.Compared.{Each, by}

module _ {M : Type 0} (order : M → ℕ) (t : M) where
  -- from the n-th variant on: what a variant means has the variant's order, and where it means t, the variant's
  -- answer is whether two values of it mean the same
  abbrev pub MeaningsDecide : (Fss : List (List Field)) → (Choice Fss → M) → Each Bool Fss → ℕ → Type 0
  MeaningsDecide [] meaning tests n = ⊤
  MeaningsDecide (Fs ∷ Fss) meaning tests n =
      (((x : Values Fs) → order (meaning (inl x)) ≡ n)
      × ((x y : Values Fs) → meaning (inl x) ≡ t
      → Decides (tests.0 x y) (meaning (inl x) ≡ meaning (inl y)))) × MeaningsDecide Fss (λ c. meaning (inr c)) tests.1 (n + 1)

  later_order : (Fss : List (List Field)) (meaning : Choice Fss → M) (tests : Each Bool Fss) (n : ℕ) → MeaningsDecide Fss meaning tests n → (c : Choice Fss)
      → n ≤ order (meaning c)
  later_order [] meaning tests n all c = absurd c
  later_order (Fs ∷ Fss) meaning tests n all (inl x) = let e = all.0.0 x in omega arith
  later_order (Fs ∷ Fss) meaning tests n all (inr c) = let h = later_order Fss (λ d. meaning (inr d)) tests.1 (n + 1) all.1 c in omega arith

  apart : (Fs : List Field) (Fss : List (List Field)) (meaning : Choice (Fs ∷ Fss) → M) (tests : Each Bool (Fs ∷ Fss)) (n : ℕ)
      → MeaningsDecide (Fs ∷ Fss) meaning tests n → (x : Values Fs) (c : Choice Fss) → meaning (inl x) ≡ meaning (inr c) → ⊥
  apart Fs Fss meaning tests n all x c e =
      let here = all.0.0 x in
      let later = later_order Fss (λ d. meaning (inr d)) tests.1 (n + 1) all.1 c in
      let same = ap order e in
      omega arith

  choices_meaning : (Fss : List (List Field)) (meaning : Choice Fss → M) (tests : Each Bool Fss) (n : ℕ) → MeaningsDecide Fss meaning tests n
      → (c d : Choice Fss) → meaning c ≡ t → Decides (by false false Fss tests c d) (meaning c ≡ meaning d)
  choices_meaning [] meaning tests n all c d is = absurd c
  choices_meaning (Fs ∷ Fss) meaning tests n all (inl x) (inl y) is = all.0.1 x y is
  choices_meaning (Fs ∷ Fss) meaning tests n all (inl x) (inr y) is = (λ e. absurd (true≢false (sym e)), λ e. absurd (apart Fs Fss meaning tests n all x y e))
  choices_meaning (Fs ∷ Fss) meaning tests n all (inr x) (inl y) is =
      (λ e. absurd (true≢false (sym e)), λ e. absurd (apart Fs Fss meaning tests n all y x (sym e)))
  choices_meaning (Fs ∷ Fss) meaning tests n all (inr x) (inr y) is = choices_meaning Fss (λ d. meaning (inr d)) tests.1 (n + 1) all.1 x y is

  -- for a type that holds itself: t is what the recursion goes down
  pub enum_meaning_at : (N : Record) (meaning : N.D → M) (tests : Each Bool N.parts) → MeaningsDecide N.parts (λ c. meaning (N.make c)) tests 0 → (a b : N.D)
      → meaning a ≡ t → Decides (by false false N.parts tests (N.as_values a) (N.as_values b)) (meaning a ≡ meaning b)
  enum_meaning_at N meaning tests all a b is =
      let p = ap meaning (N.eta a) in
      let q = ap meaning (N.eta b) in
      let h = choices_meaning N.parts (λ c. meaning (N.make c)) tests 0 all (N.as_values a) (N.as_values b) (p ∙ is) in
      (λ e. sym p ∙ h.0 e ∙ q, λ e. h.1 (p ∙ e ∙ sym q))

-- N is `enum` of the type's module in `specs.contracts`
pub enum_meaning : {M : Type 0} (order : M → ℕ) (N : Record) (meaning : N.D → M) (tests : Each Bool N.parts)
    → ((t : M) → MeaningsDecide order t N.parts (λ c. meaning (N.make c)) tests 0) → (a b : N.D)
    → Decides (by false false N.parts tests (N.as_values a) (N.as_values b)) (meaning a ≡ meaning b)
enum_meaning order N meaning tests all a b = enum_meaning_at order (meaning a) N meaning tests (all (meaning a)) a b refl

module _ {A B M : Type 0} {test : A → A → Bool} (view : A → B) (made : B → M) where
  -- a variant of one field, whose meaning is a constructor of the field's: `λ p q e. cc` shows that the constructor is one to one
  pub one_meaning : IsEqualityOf view test → ((p q : B) → made p ≡ made q → p ≡ q) → {t : M} (x y : A × Unit {0}) → made (view x.0) ≡ t
      → Decides (test x.0 y.0) (made (view x.0) ≡ made (view y.0))
  one_meaning decides one x y is = (λ e. ap made ((decides x.0 y.0).0 e), λ e. (decides x.0 y.0).1 (one (view x.0) (view y.0) e))

  -- the same where that is proved, by `means_is`, and not computed
  pub one_meaning_by : (means : A → M) → ((a : A) → means a ≡ made (view a)) → ((p q : B) → made p ≡ made q → p ≡ q) → {t : M}
      → ((a b : A) → made (view a) ≡ t → Decides (test a b) (view a ≡ view b)) → (x y : A × Unit {0}) → means x.0 ≡ t
      → Decides (test x.0 y.0) (means x.0 ≡ means y.0)
  one_meaning_by means means_is one decides x y is =
      let p = means_is x.0 in
      let q = means_is y.0 in
      let h = decides x.0 y.0 (sym p ∙ is) in
      (λ e. p ∙ ap made (h.0 e) ∙ sym q, λ e. h.1 (one (view x.0) (view y.0) (sym p ∙ e ∙ q)))

-- ---- the fields' facts

pub text_equality : IsEqualityOf (λ (text : String Global). string_bytes text) (λ a b. bytes_eq (string_bytes a) (string_bytes b))
text_equality a b = bytes_decides (string_bytes a) (string_bytes b)

module _ {A : Type 0} {test : A → A → Bool} where
  pub items_equality : IsEquality test → IsEqualityOf (λ (items : Vec A Global). items.items) (λ a b. pointwise test a.items b.items)
  items_equality h a b = pointwise_decides h a.items b.items

  module _ {M : Type 0} (meaning : A → M) (h : IsEqualityOf meaning test) where
    mapped : (xs ys : List A) → Decides (pointwise test xs ys) (map meaning xs ≡ map meaning ys)
    mapped [] [] = (λ e. refl, λ e. refl)
    mapped [] (y ∷ ys) = (λ e. absurd (true≢false (sym e)), λ e. cc)
    mapped (x ∷ xs) [] = (λ e. absurd (true≢false (sym e)), λ e. cc)
    mapped (x ∷ xs) (y ∷ ys) =
        let first = h x y in
        let later = mapped xs ys in (
          λ e. λ i. first.0 (first_so (test x y) (pointwise test xs ys) e) i ∷ later.0 (second_so (test x y) (pointwise test xs ys) e) i,
          λ e.
              let p : meaning x ≡ meaning y = cc in
              let q : map meaning xs ≡ map meaning ys = cc in
              λ i. first.1 p i && later.1 q i,
        )

    pub items_meaning : IsEqualityOf (λ (items : Vec A Global). map meaning items.items) (λ a b. pointwise test a.items b.items)
    items_meaning a b = mapped a.items b.items
