-- The attributes of a message of traffic control (linux/rtnetlink.h, TCA_*), under the kind that governs the message: data, counters and
-- what statistics say of a kind are read by the first TCA_KIND among them, wherever that stands, without one final zero.
use Rattle.std.specs.Prelude.{ℕ, ◌==◌, true, false, List, drop, Option, Some, None, if◌then◌else◌, ◌⊎◌}
use Rattle.std.proofs.Common.{◌≡◌, ◌∙◌, inl, inr, refl, ap}
use Rattle.std.proofs.lemmas.Bool.{eqb-true}
use Rattle.npr_base.specs.Beside.{Sides, beside, has, numbers-in, side_writing}
use Rattle.npr_base.specs.EnumFamily.{attributes_in, rewritten}
use Rattle.npr_base.specs.EnumTable.{VariantRows, Names, IsNamed, MeaningIn, meaning_in, shape_in, numbered, ReadsIn, writing_in}
use Rattle.npr_base.specs.Family.{Writing, Reading, Shape, Family, family_of, written_by, written_as}
use Rattle.npr_base.specs.Framing.{Item, number_of}
use Rattle.npr_base.specs.LeftOut.{retold}
use Rattle.npr_base.specs.lemmas.Bool.{one_of}
use Rattle.npr_base.specs.lemmas.EnumTable.{shape-in}
use Rattle.npr_base.specs.Refusal.{at_number}
use Rattle.npr_base.specs.Tables.{row, others, ◌or◌, value, text, items, seen, listed, nothing, exactly, leading, raw, dropped, byte, le32, list_of, name}
use Rattle.npr_base.specs.NameText.{IsName}
use Rattle.npr_base.specs.Unterminated.{told_by, name_is}
use Rattle.npr_base.specs.declared.attribute_set.At.{At}
use Rattle.npr_base.specs.declared.attribute_set.AttributeSet.TheVariants.{Tc as AtTc, TcStats2 as AtStats2, TcStab as AtStab}
use Rattle.npr_base.specs.declared.value.Form.{Form}
use Rattle.npr_tc_values.specs.Bitfield.{bitfield}
use Rattle.npr_tc_values.specs.Estimator.{estimator}
use Rattle.npr_tc_values.specs.Form.{form_named}
use Rattle.npr_tc_qdiscs.specs.Stab as OfStab
use Rattle.npr_tc_values.specs.Stats.{stats}
use Rattle.npr_tc_values.specs.Stats2 as OfStats2
use Rattle.npr_tc_values.specs.Xstats.{xstats, xstats_of}
use Rattle.npr_tc_values.specs.declared.form.TcForm.{TcForm}
use Rattle.npr_tc_values.specs.declared.form.TcForm.TheVariants.{Kept}
use Rattle.npr_tc.specs.Options.{Kind, kept, holding, kind_of, Said, options, unknown, options_of, said, said_by, shown_as, shown_by, kept-number}
use Rattle.npr_tc.specs.Options as OfOptions
use Rattle.npr_tc.specs.contracts.attribute.TcAttribute.{enum}
use Rattle.npr_tc.specs.declared.attribute.TcAttribute.{TcAttribute}
use denote.Enum.Declared.{Choice}
use denote.Struct.Field.{Field}

-- the variants but the first two, data and unknown data, which share number 2
abbrev pub later : List (List Field)
later = drop 2 enum.parts

-- their rows, in the order of the variants
abbrev pub rows : TcForm → VariantRows later × Names TcAttribute later
rows form =
    row AtTc 1 name (text TcAttribute.Kind)  -- TCA_KIND
    or row AtTc 3 (leading stats) (value TcAttribute.Stats)  -- TCA_STATS
    or row AtTc 4 (xstats form) (seen xstats_of TcAttribute.Xstats)  -- TCA_XSTATS
    or row AtTc 5 (leading estimator) (value TcAttribute.Rate)  -- TCA_RATE
    or row AtTc 6 raw (items TcAttribute.Fcnt)  -- TCA_FCNT
    or row AtTc 7 (list_of AtStats2 (OfStats2.attributes form)) (listed OfStats2.family.meaning TcAttribute.Stats2)  -- TCA_STATS2
    or row AtTc 8 (list_of AtStab OfStab.attributes) (listed OfStab.family.meaning TcAttribute.Stab)  -- TCA_STAB
    or row AtTc 10 dropped (nothing TcAttribute.DumpInvisible)  -- TCA_DUMP_INVISIBLE
    or row AtTc 11 (exactly le32) (value TcAttribute.Chain)  -- TCA_CHAIN
    or row AtTc 12 (exactly byte) (value TcAttribute.HwOffload)  -- TCA_HW_OFFLOAD
    or row AtTc 13 (exactly le32) (value TcAttribute.IngressBlock)  -- TCA_INGRESS_BLOCK
    or row AtTc 14 (exactly le32) (value TcAttribute.EgressBlock)  -- TCA_EGRESS_BLOCK
    or row AtTc 15 (exactly bitfield) (value TcAttribute.DumpFlags)  -- TCA_DUMP_FLAGS
    or row AtTc 16 name (text TcAttribute.ExtWarnMsg)  -- TCA_EXT_WARN_MSG
    or others (value TcAttribute.Other)

-- the numbers are apart, and the names at their places
pub apart : (form : TcForm) → numbered later (rows form).0 ≡ true
apart form = refl

pub named : IsNamed enum (λ f. TcAttribute.Options f.0, (λ f. TcAttribute.OptionsUnknown f.0, (rows Kept).1))
named = refl

-- what an attribute is, without where it lies in memory
abbrev pub Rest : Type 0
Rest = MeaningIn later (rows Kept).0

abbrev pub Meaning : Type 0
Meaning = Said ⊎ Rest

abbrev pub meaning_of : Choice enum.parts → Meaning
meaning_of (inl f) = inl (options (options_of f.0))
meaning_of (inr (inl f)) = inl (unknown f.0)
meaning_of (inr (inr c)) = inr (meaning_in later (rows Kept).0 c)

abbrev pub meaning : TcAttribute → Meaning
meaning a = meaning_of (enum.as_values a)

-- how each is written, whatever governs
abbrev pub rest_writing : Writing Rest
rest_writing = writing_in later (rows Kept).0

abbrev pub writing : Writing Meaning
writing = side_writing OfOptions.writing rest_writing

pub shapes : (form : TcForm) (m : Rest) → rest_writing.shape m ≡ (writing_in later (rows form).0).shape m
shapes form (inl kind) = refl
shapes form (inr (inl s)) = refl
shapes form (inr (inr (inl x))) = refl
shapes form (inr (inr (inr (inl r)))) = refl
shapes form (inr (inr (inr (inr (inl f))))) = refl
shapes form (inr (inr (inr (inr (inr (inl xs)))))) = refl
shapes form (inr (inr (inr (inr (inr (inr m)))))) = refl

pub members : (form : TcForm) (m : Rest) → rest_writing.members m ≡ (writing_in later (rows form).0).members m
members form (inl kind) = refl
members form (inr (inl s)) = refl
members form (inr (inr (inl x))) = refl
members form (inr (inr (inr (inl r)))) = refl
members form (inr (inr (inr (inr (inl f))))) = refl
members form (inr (inr (inr (inr (inr (inl xs)))))) = refl
members form (inr (inr (inr (inr (inr (inr m)))))) = refl

-- by the variant
abbrev pub shape_of : Choice enum.parts → Shape
shape_of (inl f) = writing.shape (meaning_of (inl f))
shape_of (inr (inl f)) = writing.shape (meaning_of (inr (inl f)))
shape_of (inr (inr c)) = shape_in later (rows Kept).0 c

written-of : (c : Choice enum.parts) → shape_of c ≡ writing.shape (meaning_of c)
written-of (inl f) = refl
written-of (inr (inl f)) = refl
written-of (inr (inr c)) = shape-in later (rows Kept).0 c

abbrev pub shape : TcAttribute → Shape
shape a = shape_of (enum.as_values a)

pub shape-by : (a : TcAttribute) → shape a ≡ writing.shape (meaning a)
shape-by a = written-of (enum.as_values a)

-- what attributes of all other numbers mean
abbrev pub rest : TcForm → Reading rest_writing
rest form = rewritten (attributes_in later (rows form).0 (apart form)) rest_writing (shapes form) (members form)

pub other-numbers : (form : TcForm) (x : Item) (m : Rest) → has 2 x ≡ false → (rest form).Reads x m → has 2 (written_by rest_writing m) ≡ false
other-numbers form x m other reads =
    ap (λ (n : ℕ). n == 2)
    (ap (λ (s : Shape). number_of (written_as s).kind) (shapes form m) ∙ numbers-in later (rows form).0 (apart form) x m reads) ∙ other

pub sides : (form : TcForm) → Sides 2 (said form) (rest form)
sides form = record { own = kept-number form; others = other-numbers form }

abbrev pub reading : TcForm → Reading writing
reading form = beside 2 (said form) (rest form) (sides form)

-- how a value is read without memory, by its number
abbrev pub told_form : TcForm → ℕ → At × Form
told_form form number = if number == 2 then (at_number AtTc 2, shown_as form) else (rest form).seeing.form_at number

own-form : (k : Kind) (number : ℕ) → (at_number AtTc 2, shown_by k) ≡ (said_by k).seeing.form_at number
own-form kept number = refl
own-form (holding codec made is) number = refl

pub told-same : (form : TcForm) (number : ℕ) → told_form form number ≡ (reading form).seeing.form_at number
told-same form number =
    ap (λ (own : At × Form). if number == 2 then own else (rest form).seeing.form_at number) (own-form (kind_of form) number)

-- the family, under what governs the message
abbrev pub attributes : TcForm → Reading writing
attributes form = retold (reading form) (told_form form) (told-same form)

abbrev pub family : Family TcAttribute TcForm
family = family_of meaning attributes

-- ---- what governs

abbrev pub tells : Item → Option TcForm
tells x = told_by 1 form_named x

abbrev pub told : Meaning → Option TcForm
told (inr (inl kind)) = Some (form_named kind)
told m = None

two_not_one : (n : ℕ) → (n == 2) ≡ true → (n == 1) ≡ false
two_not_one n e = ap (λ (k : ℕ). k == 1) (eqb-true n 2 e)

pub alike : (form : TcForm) (x : Item) (m : Meaning) → (attributes form).Reads x m → tells x ≡ told m
alike form x (inl s) reads = one_of (number_of x.kind == 2) (λ e p. rw (two_not_one (number_of x.kind) e) refl) (λ e none. absurd none) reads
alike form x (inr (inl kind)) reads = one_of (number_of x.kind == 2) (λ e none. absurd none)
    (λ e. one_of (number_of x.kind == 1)
    (λ f (p : IsName x.value kind). rw f (ap (λ (w : List ℕ). Some (form_named w)) (name_is x.value kind p.1))) (λ f none. absurd none)) reads
alike form x (inr (inr m)) reads = one_of (number_of x.kind == 2) (λ e none. absurd none)
    (λ e. one_of (number_of x.kind == 1) (λ f none. absurd none) (λ f p. rw f refl)) reads

-- ---- of all numbers but 2, and of 2

abbrev pub RestReads : TcForm → Item → Meaning → Type 0
RestReads form x (inl s) = ⊥
RestReads form x (inr m) = ReadsIn later (rows form).0 (number_of x.kind) x m

unfoldable pub IsRest : TcForm → Item → TcAttribute → Type 0
IsRest form x a = RestReads form x (meaning a)

unfoldable pub MeansSaid : TcAttribute → Said → Type 0
MeansSaid a s = meaning a ≡ inl s
