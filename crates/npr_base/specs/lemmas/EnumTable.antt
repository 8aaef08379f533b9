-- What is true of a table of an enum's variants, whose numbers are apart.
--     choices-decide       `==` of the enum answers whether two values mean the same, given what it answers of each variant's field
use Rattle.std.specs.Prelude.{◌==◌, ◌&&◌, ◌⊎◌, not, if◌then◌else◌}
use Rattle.std.specs.Bool.{MatchBool, Decides}
use Rattle.std.specs.Cmp.{first_so, second_so}
use Rattle.std.proofs.lemmas.Bool.{eqb-true, eqb-false, ne_eqb, not-true}
use Rattle.std.proofs.Common.{◌≡◌, ℕ, ◌<◌, ◌^◌, Bool, true, false, List, [], ◌∷◌, inl, inr, refl, sym, ap, subst, None, ◌∙◌, true≢false}
use Rattle.std.proofs.Common.{arith}
use Rattle.npr_base.specs.declared.attribute_set.At.{At}
use Rattle.npr_base.specs.declared.attribute_set.AttributeSet.{AttributeSet}
use Rattle.npr_base.specs.declared.refusal.DecodeError.{DecodeError}
use Rattle.npr_base.specs.declared.value.Form.{Form}
use Rattle.npr_base.specs.Framing.{Item, marked, number_of}
use Rattle.npr_base.specs.EnumTable.{VariantRows, kind_at, MeaningIn, meaning_in, other_in, row_in, rows_in, slot_in, shape_in, has_number, numbered, ReadsIn}
use Rattle.npr_base.specs.EnumTable.{WrongIn, looks_in, form_in, writing_in, all_rows, CoherentIn}
use Rattle.npr_base.specs.Family.{written_as}
use Rattle.npr_base.specs.Value.{Shown, Shows, Misshown, IsWhole}
use Rattle.npr_base.specs.Table.{Row, ReadsAt, WrongAt, Slot, slot_other, slot_unfit, slot_kind, slot_members, IsSlot, IsWritten, Aligned, form_from}
use Rattle.npr_base.specs.Table.{slot_sees, has_row, item_of, shape_at, looks_of}
use Rattle.npr_base.specs.lemmas.Table.{marked-small, wrong_or}
use Rattle.npr_base.specs.Looking.{looking_inside}
use denote.Struct.Field.{Field}
use denote.Struct.Values.{Values}
use denote.Enum.Compared.{Each, by}
use denote.Enum.Declared.{Choice}

-- ---- numbers

marked-number : (nested : Bool) (kind : ℕ) → number_of (marked nested kind) ≡ number_of kind
marked-number true kind = omega arith
marked-number false kind = refl

if_not : (b c : Bool) → (if b then true else c) ≡ false → (b ≡ false) × (c ≡ false)
if_not true c e = absurd (true≢false e)
if_not false c e = (refl, e)

row_numbers : {M : Type 0} (Fss : List (List Field)) (rows : VariantRows Fss) (part : MeaningIn Fss rows → M) (k : ℕ)
    → has_row (rows_in Fss rows part) k ≡ has_number Fss rows k
row_numbers [] rows part k = refl
row_numbers (Fs ∷ []) rows part k = refl
row_numbers (Fs ∷ Gs ∷ Fss) rows part k =
    ap (λ (b : Bool). if k == rows.0.at.number then true else b) (row_numbers (Gs ∷ Fss) rows.1 (λ m. part (inr m)) k)

-- of a row, and of those behind it
module _ (Fs Gs : List Field) (Fss : List (List Field)) (rows : VariantRows (Fs ∷ Gs ∷ Fss)) (h : numbered (Fs ∷ Gs ∷ Fss) rows ≡ true) where
  abbrev own : Bool
  own = number_of rows.0.at.number == rows.0.at.number

  abbrev taken : Bool
  taken = has_number (Gs ∷ Fss) rows.1 rows.0.at.number

  abbrev later : Bool
  later = numbered (Gs ∷ Fss) rows.1

  number_own : (number_of rows.0.at.number == rows.0.at.number) ≡ true
  number_own = first_so own (not taken && later) h

  row_own : (number_of (kind_at rows.0) == rows.0.at.number) ≡ true
  row_own = rw (marked-number rows.0.nested rows.0.at.number) number_own

  row_short : kind_at rows.0 < 2 ^ 16
  row_short = marked-small rows.0.nested rows.0.at.number (omega (arith, eqb-true (number_of rows.0.at.number) rows.0.at.number number_own))

  row_alone : has_number (Gs ∷ Fss) rows.1 rows.0.at.number ≡ false
  row_alone = not-true taken (first_so (not taken) later (second_so own (not taken && later) h))

  rows_behind : numbered (Gs ∷ Fss) rows.1 ≡ true
  rows_behind = second_so (not taken) later (second_so own (not taken && later) h)

-- ---- the table

-- what a table of such rows reads
pub matches : {P Q S T : Type 0} (b : Bool) → (P → S) → (Q → T) → MatchBool b P Q → MatchBool b S T
matches true f g p = f p
matches false f g p = g p

module _ {M : Type 0} (other : Item → M) where
  pub reads-in : (Fss : List (List Field)) (rows : VariantRows Fss) (part : MeaningIn Fss rows → M) → ((x : Item) → part (other_in Fss rows x) ≡ other x)
      → (k : ℕ) (x : Item) (m : MeaningIn Fss rows) → ReadsIn Fss rows k x m → ReadsAt other (rows_in Fss rows part) k x (part m)
  reads-in [] rows part same k x m reads = ap part reads ∙ same x
  reads-in (Fs ∷ []) rows part same k x m reads = ap part reads ∙ same x
  reads-in (Fs ∷ Gs ∷ Fss) rows part same k x (inl v) reads = matches (k == rows.0.at.number) (λ r. (v, r, refl)) (λ none. absurd none) reads
  reads-in (Fs ∷ Gs ∷ Fss) rows part same k x (inr m) reads =
      matches (k == rows.0.at.number) (λ none. absurd none) (reads-in (Gs ∷ Fss) rows.1 (λ n. part (inr n)) same k x m) reads

pub wrong-in : {M : Type 0} (Fss : List (List Field)) (rows : VariantRows Fss) (part : MeaningIn Fss rows → M) (k : ℕ) (x : Item) (e : DecodeError)
    → WrongIn Fss rows k x e → WrongAt (rows_in Fss rows part) k x e
wrong-in [] rows part k x e wrong = wrong
wrong-in (Fs ∷ []) rows part k x e wrong = wrong
wrong-in (Fs ∷ Gs ∷ Fss) rows part k x e wrong = matches (k == rows.0.at.number) (λ w. w) (wrong-in (Gs ∷ Fss) rows.1 (λ n. part (inr n)) k x e) wrong

pub looks-in : {M : Type 0} (Fss : List (List Field)) (rows : VariantRows Fss) (part : MeaningIn Fss rows → M)
    → looks_in Fss rows ≡ looks_of (rows_in Fss rows part)
looks-in [] rows part = refl
looks-in (Fs ∷ []) rows part = refl
looks-in (Fs ∷ Gs ∷ Fss) rows part =
    ap (looking_inside rows.0.at.number rows.0.codec.members.looks) (looks-in (Gs ∷ Fss) rows.1 (λ n. part (inr n)))

pub form-in : {M : Type 0} (family : AttributeSet) (Fss : List (List Field)) (rows : VariantRows Fss) (part : MeaningIn Fss rows → M) (k : ℕ)
    → form_in family Fss rows k ≡ form_from family (rows_in Fss rows part) k
form-in family [] rows part k = refl
form-in family (Fs ∷ []) rows part k = refl
form-in family (Fs ∷ Gs ∷ Fss) rows part k =
    ap (λ f. if k == rows.0.at.number then (rows.0.at, rows.0.codec.showing.form) else f) (form-in family (Gs ∷ Fss) rows.1 (λ n. part (inr n)) k)

-- what is written of a meaning is read as it
module _ {M : Type 0} (all : List (Row M)) where
  apart : (this : ℕ) (Fss : List (List Field)) (rows : VariantRows Fss) → numbered Fss rows ≡ true → has_number Fss rows this ≡ false
      → ((k : ℕ) → has_row all k ≡ false → (k == this) ≡ false) → (m : MeaningIn Fss rows) → IsSlot all (slot_in Fss rows m)
      → (number_of (item_of (slot_in Fss rows m)).kind == this) ≡ false
  apart this [] rows h none free m is = free (number_of m.kind) is.alone
  apart this (Fs ∷ []) rows h none free m is = free (number_of m.kind) is.alone
  apart this (Fs ∷ Gs ∷ Fss) rows h none free (inl v) is =
      let here = eqb-true (number_of (kind_at rows.0)) rows.0.at.number (row_own Fs Gs Fss rows h) in
      let away = (if_not (this == rows.0.at.number) (has_number (Gs ∷ Fss) rows.1 this) none).0 in
      ne_eqb (number_of (kind_at rows.0)) this (λ q. eqb-false this rows.0.at.number away (sym q ∙ here))
  apart this (Fs ∷ Gs ∷ Fss) rows h none free (inr m) is =
      apart this (Gs ∷ Fss) rows.1 (rows_behind Fs Gs Fss rows h) (if_not (this == rows.0.at.number) (has_number (Gs ∷ Fss) rows.1 this) none).1 free m is

  pub back-in : (Fss : List (List Field)) (rows : VariantRows Fss) → numbered Fss rows ≡ true
      → ((k : ℕ) → has_row all k ≡ false → has_number Fss rows k ≡ false) → (m : MeaningIn Fss rows) → IsSlot all (slot_in Fss rows m)
      → slot_unfit (slot_in Fss rows m) ≡ None → ReadsIn Fss rows (number_of (item_of (slot_in Fss rows m)).kind) (item_of (slot_in Fss rows m)) m
  back-in [] rows h within m is fits = refl
  back-in (Fs ∷ []) rows h within m is fits = refl
  back-in (Fs ∷ Gs ∷ Fss) rows h within (inl v) is fits = rw (row_own Fs Gs Fss rows h) (rows.0.codec.reads_back (kind_at rows.0) v is fits)
  back-in (Fs ∷ Gs ∷ Fss) rows h within (inr m) is fits =
      let free = λ (k : ℕ). λ (e : has_row all k ≡ false). if_not (k == rows.0.at.number) (has_number (Gs ∷ Fss) rows.1 k) (within k e) in
      let behind = rows_behind Fs Gs Fss rows h in
      let away = apart rows.0.at.number (Gs ∷ Fss) rows.1 behind (row_alone Fs Gs Fss rows h) (λ k e. (free k e).0) m is in
      rw away (back-in (Gs ∷ Fss) rows.1 behind (λ k e. (free k e).1) m is fits)

  pub kinds-in : (Fss : List (List Field)) (rows : VariantRows Fss) → numbered Fss rows ≡ true → (m : MeaningIn Fss rows) → IsSlot all (slot_in Fss rows m)
      → slot_kind (slot_in Fss rows m) < 2 ^ 16
  kinds-in [] rows h m is = is.proper.kind
  kinds-in (Fs ∷ []) rows h m is = is.proper.kind
  kinds-in (Fs ∷ Gs ∷ Fss) rows h (inl v) is = row_short Fs Gs Fss rows h
  kinds-in (Fs ∷ Gs ∷ Fss) rows h (inr m) is = kinds-in (Gs ∷ Fss) rows.1 (rows_behind Fs Gs Fss rows h) m is

module _ {M : Type 0} (all : List (Row M)) (slot_of : M → Slot) where
  pub aligned-in : (Fss : List (List Field)) (rows : VariantRows Fss) (part : MeaningIn Fss rows → M)
      → ((m : MeaningIn Fss rows) → slot_of (part m) ≡ slot_in Fss rows m) → numbered Fss rows ≡ true
      → Aligned slot_of (λ m. IsSlot all (slot_of m)) (rows_in Fss rows part)
  aligned-in [] rows part same h = tt
  aligned-in (Fs ∷ []) rows part same h = tt
  aligned-in (Fs ∷ Gs ∷ Fss) rows part same h =
      let own : (v : rows.0.V) → IsWritten slot_of (λ m. IsSlot all (slot_of m)) (row_in Fs Gs Fss rows part) v =
      λ v.
      let written = ap (λ (at : Slot). (written_as (shape_at at)).value) (same (inl v)) in (
        written,
        ap slot_members (same (inl v)),
        λ holds. subst (IsSlot all) (sym (same (inl v))) holds,
        λ b. ap (λ (at : Slot). slot_sees at b) (same (inl v)),
      ) in
      let alone = row_numbers (Gs ∷ Fss) rows.1 (λ m. part (inr m)) rows.0.at.number ∙ row_alone Fs Gs Fss rows h in
      (own, alone, aligned-in (Gs ∷ Fss) rows.1 (λ m. part (inr m)) (λ m. same (inr m)) (rows_behind Fs Gs Fss rows h))

abbrev EitherOf : {A B : Type 0} → (A → Type 0) → (B → Type 0) → A ⊎ B → Type 0
EitherOf P Q (inl v) = P v
EitherOf P Q (inr m) = Q m

either_is : (Fs Gs : List Field) (Fss : List (List Field)) (rows : VariantRows (Fs ∷ Gs ∷ Fss)) (k : ℕ) (x : Item) (m : MeaningIn (Fs ∷ Gs ∷ Fss) rows)
    → EitherOf (λ v. MatchBool (k == rows.0.at.number) (rows.0.codec.Reads x.value v) ⊥)
    (λ n. MatchBool (k == rows.0.at.number) ⊥ (ReadsIn (Gs ∷ Fss) rows.1 k x n)) m → ReadsIn (Fs ∷ Gs ∷ Fss) rows k x m
either_is Fs Gs Fss rows k x (inl v) p = p
either_is Fs Gs Fss rows k x (inr m) p = p

-- what is shown whole is read, and what is not shown is wrong
reads_or : {A B : Type 0} {P : A → Type 0} {Q : B → Type 0} (b : Bool) (f g : At × Form) (x : Item) (s : Shown)
    → (IsWhole f.1 → Shows f.1 x.value s → (v : A) × P v) → (IsWhole g.1 → Shows g.1 x.value s → (m : B) × Q m)
    → IsWhole (if b then f else g).1 → Shows (if b then f else g).1 x.value s
    → (m : A ⊎ B) × EitherOf (λ v. MatchBool b (P v) ⊥) (λ n. MatchBool b ⊥ (Q n)) m
reads_or true f g x s here rest w p = let v = here w p in (inl v.0, v.1)
reads_or false f g x s here rest w p = let m = rest w p in (inr m.0, m.1)

pub whole-in : (family : AttributeSet) (Fss : List (List Field)) (rows : VariantRows Fss) (k : ℕ) (x : Item) (s : Shown)
    → IsWhole (form_in family Fss rows k).1 → Shows (form_in family Fss rows k).1 x.value s → (m : MeaningIn Fss rows) × ReadsIn Fss rows k x m
whole-in family [] rows k x s w p = (x, refl)
whole-in family (Fs ∷ []) rows k x s w p = (x, refl)
whole-in family (Fs ∷ Gs ∷ Fss) rows k x s w p =
    let m = reads_or (k == rows.0.at.number) (rows.0.at, rows.0.codec.showing.form) (form_in family (Gs ∷ Fss) rows.1 k) x s
    (λ whole shows. rows.0.codec.showing.whole x.value s whole shows) (λ whole shows. whole-in family (Gs ∷ Fss) rows.1 k x s whole shows) w p in
    (m.0, either_is Fs Gs Fss rows k x m.0 m.1)

pub wrong-shown : (family : AttributeSet) (Fss : List (List Field)) (rows : VariantRows Fss) (k : ℕ) (x : Item) (e : DecodeError)
    → Misshown (form_in family Fss rows k).1 (form_in family Fss rows k).0 x.value e → WrongIn Fss rows k x e
wrong-shown family [] rows k x e p = p
wrong-shown family (Fs ∷ []) rows k x e p = p
wrong-shown family (Fs ∷ Gs ∷ Fss) rows k x e p =
    wrong_or (k == rows.0.at.number) (rows.0.at, rows.0.codec.showing.form) (form_in family (Gs ∷ Fss) rows.1 k) x e
    (λ wrong. rows.0.codec.showing.wrong rows.0.at x.value e wrong) (λ wrong. wrong-shown family (Gs ∷ Fss) rows.1 k x e wrong) p

pub slot-other : (Fss : List (List Field)) (rows : VariantRows Fss) (x : Item) → slot_in Fss rows (other_in Fss rows x) ≡ slot_other x
slot-other [] rows x = refl
slot-other (Fs ∷ []) rows x = refl
slot-other (Fs ∷ Gs ∷ Fss) rows x = slot-other (Gs ∷ Fss) rows.1 x

-- the table
module _ (Fss : List (List Field)) (rows : VariantRows Fss) where
  pub back-read : numbered Fss rows ≡ true → (m : MeaningIn Fss rows) → CoherentIn Fss rows m → slot_unfit (slot_in Fss rows m) ≡ None
      → ReadsIn Fss rows (number_of (item_of (slot_in Fss rows m)).kind) (item_of (slot_in Fss rows m)) m
  back-read h = back-in (all_rows Fss rows) Fss rows h (λ k e. sym (row_numbers Fss rows (λ m. m) k) ∙ e)

  pub rows-read : (x : Item) (m : MeaningIn Fss rows) → ReadsIn Fss rows (number_of x.kind) x m
      → ReadsAt (other_in Fss rows) (all_rows Fss rows) (number_of x.kind) x m
  rows-read x m p = reads-in (other_in Fss rows) Fss rows (λ n. n) (λ y. refl) (number_of x.kind) x m p

-- what is written of a value is written of its meaning
pub shape-in : (Fss : List (List Field)) (rows : VariantRows Fss) (c : Choice Fss) → shape_in Fss rows c ≡ (writing_in Fss rows).shape (meaning_in Fss rows c)
shape-in [] rows c = absurd c
shape-in (Fs ∷ []) rows (inl values) = refl
shape-in (Fs ∷ []) rows (inr c) = absurd c
shape-in (Fs ∷ Gs ∷ Fss) rows (inl values) = refl
shape-in (Fs ∷ Gs ∷ Fss) rows (inr c) = shape-in (Gs ∷ Fss) rows.1 c

-- ---- `==`

-- a variant's answer is whether two values of its field are the same
abbrev pub FieldsDecide : (Fss : List (List Field)) → VariantRows Fss → Each Bool Fss → Type 0
FieldsDecide [] rows tests = Unit {0}
FieldsDecide (Fs ∷ []) rows tests = ((x y : Values Fs) → Decides (tests.0 x y) (rows.item x ≡ rows.item y)) × Unit {0}
FieldsDecide (Fs ∷ Gs ∷ Fss) rows tests = ((x y : Values Fs) → Decides (tests.0 x y) (rows.0.holds x ≡ rows.0.holds y)) × FieldsDecide (Gs ∷ Fss) rows.1 tests.1

-- the two sides of a meaning
module _ (A B : Type 0) where
  abbrev here : A → A ⊎ B
  here v = inl v

  abbrev behind : B → A ⊎ B
  behind m = inr m

  here-decides : (b : Bool) (x y : A) → Decides b (x ≡ y) → Decides b (here x ≡ here y)
  here-decides b x y decides = (λ e. ap here (decides.0 e), λ e. decides.1 (cc))

  behind-decides : (b : Bool) (x y : B) → Decides b (x ≡ y) → Decides b (behind x ≡ behind y)
  behind-decides b x y decides = (λ e. ap behind (decides.0 e), λ e. decides.1 (cc))

  here-apart : (x : A) (y : B) → Decides false (here x ≡ behind y)
  here-apart x y = (λ e. absurd (true≢false (sym e)), λ e. absurd (cc))

  behind-apart : (x : A) (y : B) → Decides false (behind y ≡ here x)
  behind-apart x y = (λ e. absurd (true≢false (sym e)), λ e. absurd (cc))

pub choices-decide : (Fss : List (List Field)) (rows : VariantRows Fss) (tests : Each Bool Fss) → FieldsDecide Fss rows tests → (c d : Choice Fss)
    → Decides (by false false Fss tests c d) (meaning_in Fss rows c ≡ meaning_in Fss rows d)
choices-decide [] rows tests all c d = absurd c
choices-decide (Fs ∷ []) rows tests all (inl x) (inl y) = all.0 x y
choices-decide (Fs ∷ []) rows tests all (inl x) (inr d) = absurd d
choices-decide (Fs ∷ []) rows tests all (inr c) d = absurd c
choices-decide (Fs ∷ Gs ∷ Fss) rows tests all (inl x) (inl y) =
    here-decides rows.0.V (MeaningIn (Gs ∷ Fss) rows.1) (tests.0 x y) (rows.0.holds x) (rows.0.holds y) (all.0 x y)
choices-decide (Fs ∷ Gs ∷ Fss) rows tests all (inl x) (inr d) =
    here-apart rows.0.V (MeaningIn (Gs ∷ Fss) rows.1) (rows.0.holds x) (meaning_in (Gs ∷ Fss) rows.1 d)
choices-decide (Fs ∷ Gs ∷ Fss) rows tests all (inr c) (inl y) =
    behind-apart rows.0.V (MeaningIn (Gs ∷ Fss) rows.1) (rows.0.holds y) (meaning_in (Gs ∷ Fss) rows.1 c)
choices-decide (Fs ∷ Gs ∷ Fss) rows tests all (inr c) (inr d) =
    behind-decides rows.0.V (MeaningIn (Gs ∷ Fss) rows.1) (by false false (Gs ∷ Fss) tests.1 c d)
    (meaning_in (Gs ∷ Fss) rows.1 c) (meaning_in (Gs ∷ Fss) rows.1 d)
    (choices-decide (Gs ∷ Fss) rows.1 tests.1 all.1 c d)
