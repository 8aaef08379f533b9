-- A table with a row for each variant of an enum but the last, in the order of the variants; the last is an attribute of
-- another number, as it stands. Each row names its variant.
--     row, others                 the rows, which `or` joins
--     marked_row                  a row that is written with NESTED, which is bit 15 of the kind
--     value, text, items, seen, listed, nothing
--                                 what stands in the field of the variant that is named: itself, the bytes of a text, the items of
--                                 a vector, a view of it, views of the items; and in one without
--     IsNamed                     each variant that is named stands at the place of its row
--     MeaningIn, meaning_in       what an attribute is, without where it lies in memory: its row and its value there, or itself
--     by_row                      what is made of a meaning, by its row
--     numbered                    the numbers are numbers of attributes, and apart
use Rattle.std.specs.Prelude.{◌≡◌, ℕ, ◌==◌, ◌&&◌, ◌⊎◌, Bool, true, false, not, List, [], ◌∷◌, map, if◌then◌else◌}
use Rattle.std.specs.Bool.{MatchBool}
use Rattle.std.specs.String.{string_bytes}
use Rattle.std.specs.declared.alloc.Global.{Global}
use Rattle.std.specs.declared.string.String.{String}
use Rattle.std.specs.declared.vec.Vec.{Vec}
use Rattle.std.proofs.Common.{inl, inr}
use Rattle.npr_base.specs.declared.attribute_set.At.{At}
use Rattle.npr_base.specs.declared.attribute_set.AttributeSet.{AttributeSet}
use Rattle.npr_base.specs.declared.refusal.DecodeError.{DecodeError}
use Rattle.npr_base.specs.declared.attribute_set.AttributeSet.TheVariants.{Value as OfValue}
use Rattle.npr_base.specs.declared.value.Form.{Form}
use Rattle.npr_base.specs.declared.value.Form.TheVariants.{Raw}
use Rattle.npr_base.specs.Codec.{Codec}
use Rattle.npr_base.specs.Framing.{Item, marked, number_of}
use Rattle.npr_base.specs.Looks.{Looking}
use Rattle.npr_base.specs.Looking.{no_looking, looking_inside}
use Rattle.npr_base.specs.Refusal.{at_number}
use Rattle.npr_base.specs.Family.{Shape, Writing}
use Rattle.npr_base.specs.Table.{Row, Slot, IsSlot, slot_plain, slot_other, shape_at, writing_by}
use denote.Struct.Field.{Field}
use denote.Struct.Values.{Values}
use denote.Enum.Declared.{Record, Choice}

-- a row for a variant with such fields: where it stands, whether its kind is written with NESTED, its codec, and what the fields hold
pub record VariantRow (Fs : List Field) : Type 1 where
  pub at : At
  pub nested : Bool
  pub V : Type 0
  pub codec : Codec V
  pub holds : Values Fs → V

-- the last variant
pub record LastVariant (Fs : List Field) : Type 1 where
  pub item : Values Fs → Item

abbrev pub VariantRows : List (List Field) → Type 1
VariantRows [] = Unit {1}
VariantRows (Fs ∷ []) = LastVariant Fs
VariantRows (Fs ∷ Gs ∷ Fss) = VariantRow Fs × VariantRows (Gs ∷ Fss)

-- the variants that rows name, in a type D
abbrev pub Names : Type 0 → List (List Field) → Type 0
Names D [] = Unit {0}
Names D (Fs ∷ []) = Values Fs → D
Names D (Fs ∷ Gs ∷ Fss) = (Values Fs → D) × Names D (Gs ∷ Fss)

-- a variant of D: what its field holds, and the variant
abbrev pub Variant : Type 0 → List Field → Type 0 → Type 0
Variant D Fs V = (Values Fs → V) × (Values Fs → D)

-- a row beside the variant that it names
abbrev pub row : {D : Type 0} {Fs : List Field} {V : Type 0} → AttributeSet → ℕ → Codec V → Variant D Fs V → VariantRow Fs × (Values Fs → D)
row {D} {Fs} {V} family number codec variant =
    (record { at = at_number family number; nested = false; V = V; codec = codec; holds = variant.0 }, variant.1)

-- and one that is written with NESTED
abbrev pub marked_row : {D : Type 0} {Fs : List Field} {V : Type 0} → AttributeSet → ℕ → Codec V → Variant D Fs V → VariantRow Fs × (Values Fs → D)
marked_row family number codec variant = let r = row family number codec variant in (record r.0 { nested = true }, r.1)

-- the kind that is written
abbrev pub kind_at : {Fs : List Field} → VariantRow Fs → ℕ
kind_at r = marked r.nested r.at.number

abbrev pub others : {D : Type 0} {Fs : List Field} → Variant D Fs Item → LastVariant Fs × (Values Fs → D)
others variant = (record { item = variant.0 }, variant.1)

-- a row and the later ones
infixr 2 ◌or◌
abbrev pub ◌or◌ : {A B : Type 1} {X Y : Type 0} → A × X → B × Y → (A × B) × (X × Y)
r or s = ((r.0, s.0), (r.1, s.1))

-- one thing and the later ones
infixr 2 ◌also◌
abbrev pub ◌also◌ {ℓ} : {A B : Type ℓ} → A → B → A × B
x also y = (x, y)

-- ---- the variants

abbrev pub value : {D A : Type 0} → (A → D) → (A × Unit {0} → A) × (A × Unit {0} → D)
value variant = (λ f. f.0, λ f. variant f.0)

abbrev pub text : {D : Type 0} → (String Global → D) → (String Global × Unit {0} → List ℕ) × (String Global × Unit {0} → D)
text variant = (λ f. string_bytes f.0, λ f. variant f.0)

abbrev pub items : {D A : Type 0} → (Vec A Global → D) → (Vec A Global × Unit {0} → List A) × (Vec A Global × Unit {0} → D)
items variant = (λ f. f.0.items, λ f. variant f.0)

abbrev pub seen : {D A B : Type 0} → (A → B) → (A → D) → (A × Unit {0} → B) × (A × Unit {0} → D)
seen view variant = (λ f. view f.0, λ f. variant f.0)

abbrev pub listed : {D A B : Type 0} → (A → B) → (Vec A Global → D) → (Vec A Global × Unit {0} → List B) × (Vec A Global × Unit {0} → D)
listed view variant = (λ f. map view f.0.items, λ f. variant f.0)

abbrev pub nothing : {D : Type 0} → D → (Unit {0} → Unit {0}) × (Unit {0} → D)
nothing variant = (λ f. tt, λ f. variant)

-- what a function makes of the variants, and the places of an enum's variants
abbrev pub each : {D R : Type 0} → (Fss : List (List Field)) → (D → R) → Names D Fss → Names R Fss
each [] f names = tt
each (Fs ∷ []) f names = λ v. f (names v)
each (Fs ∷ Gs ∷ Fss) f names = (λ v. f (names.0 v), each (Gs ∷ Fss) f names.1)

abbrev pub places : {R : Type 0} (Fss : List (List Field)) → (Choice Fss → R) → Names R Fss
places [] part = tt
places (Fs ∷ []) part = λ v. part (inl v)
places (Fs ∷ Gs ∷ Fss) part = (λ v. part (inl v), places (Gs ∷ Fss) (λ c. part (inr c)))

-- the variant that each row names stands at the row's place; N is `enum` of the type's module in `specs.contracts`
abbrev pub IsNamed : (N : Record) → Names N.D N.parts → Type 0
IsNamed N names = each N.parts N.as_values names ≡ places N.parts (λ c. c)

-- ---- meanings

abbrev pub MeaningIn : (Fss : List (List Field)) → VariantRows Fss → Type 0
MeaningIn [] rows = Item
MeaningIn (Fs ∷ []) rows = Item
MeaningIn (Fs ∷ Gs ∷ Fss) rows = rows.0.V ⊎ MeaningIn (Gs ∷ Fss) rows.1

abbrev pub meaning_in : (Fss : List (List Field)) (rows : VariantRows Fss) → Choice Fss → MeaningIn Fss rows
meaning_in [] rows c = absurd c
meaning_in (Fs ∷ []) rows (inl values) = rows.item values
meaning_in (Fs ∷ []) rows (inr c) = absurd c
meaning_in (Fs ∷ Gs ∷ Fss) rows (inl values) = inl (rows.0.holds values)
meaning_in (Fs ∷ Gs ∷ Fss) rows (inr c) = inr (meaning_in (Gs ∷ Fss) rows.1 c)

-- an attribute of another number
abbrev pub other_in : (Fss : List (List Field)) (rows : VariantRows Fss) → Item → MeaningIn Fss rows
other_in [] rows x = x
other_in (Fs ∷ []) rows x = x
other_in (Fs ∷ Gs ∷ Fss) rows x = inr (other_in (Gs ∷ Fss) rows.1 x)

-- where each meaning stands
abbrev pub slot_in : (Fss : List (List Field)) (rows : VariantRows Fss) → MeaningIn Fss rows → Slot
slot_in [] rows x = slot_other x
slot_in (Fs ∷ []) rows x = slot_other x
slot_in (Fs ∷ Gs ∷ Fss) rows (inl v) = slot_plain (kind_at rows.0) rows.0.codec v
slot_in (Fs ∷ Gs ∷ Fss) rows (inr m) = slot_in (Gs ∷ Fss) rows.1 m

-- what an attribute of the number k means: a value of the row of that number, or else itself
abbrev pub ReadsIn : (Fss : List (List Field)) (rows : VariantRows Fss) → ℕ → Item → MeaningIn Fss rows → Type 0
ReadsIn [] rows k x m = m ≡ x
ReadsIn (Fs ∷ []) rows k x m = m ≡ x
ReadsIn (Fs ∷ Gs ∷ Fss) rows k x (inl v) = MatchBool (k == rows.0.at.number) (rows.0.codec.Reads x.value v) ⊥
ReadsIn (Fs ∷ Gs ∷ Fss) rows k x (inr m) = MatchBool (k == rows.0.at.number) ⊥ (ReadsIn (Gs ∷ Fss) rows.1 k x m)

-- and why it means nothing
abbrev pub WrongIn : (Fss : List (List Field)) → VariantRows Fss → ℕ → Item → DecodeError → Type 0
WrongIn [] rows k x e = ⊥
WrongIn (Fs ∷ []) rows k x e = ⊥
WrongIn (Fs ∷ Gs ∷ Fss) rows k x e = MatchBool (k == rows.0.at.number) (rows.0.codec.Wrong rows.0.at x.value e) (WrongIn (Gs ∷ Fss) rows.1 k x e)

-- the looks that reading its value takes
abbrev pub looks_in : (Fss : List (List Field)) → VariantRows Fss → Looking Item
looks_in [] rows = no_looking
looks_in (Fs ∷ []) rows = no_looking
looks_in (Fs ∷ Gs ∷ Fss) rows = looking_inside rows.0.at.number rows.0.codec.members.looks (looks_in (Gs ∷ Fss) rows.1)

-- by a number: where it stands, and how its value is read without memory. A number without a row stands in the family of the
-- first row, and its bytes are left as they are
abbrev pub family_in : (Fss : List (List Field)) → VariantRows Fss → AttributeSet
family_in [] rows = OfValue
family_in (Fs ∷ []) rows = OfValue
family_in (Fs ∷ Gs ∷ Fss) rows = rows.0.at.set

abbrev pub form_in : AttributeSet → (Fss : List (List Field)) → VariantRows Fss → ℕ → At × Form
form_in family [] rows k = (at_number family k, Raw)
form_in family (Fs ∷ []) rows k = (at_number family k, Raw)
form_in family (Fs ∷ Gs ∷ Fss) rows k = if k == rows.0.at.number then (rows.0.at, rows.0.codec.showing.form) else form_in family (Gs ∷ Fss) rows.1 k

-- what is written of a value of the enum
abbrev pub shape_in : (Fss : List (List Field)) (rows : VariantRows Fss) → Choice Fss → Shape
shape_in [] rows c = absurd c
shape_in (Fs ∷ []) rows (inl values) = shape_at (slot_other (rows.item values))
shape_in (Fs ∷ []) rows (inr c) = absurd c
shape_in (Fs ∷ Gs ∷ Fss) rows (inl values) = shape_at (slot_plain (kind_at rows.0) rows.0.codec (rows.0.holds values))
shape_in (Fs ∷ Gs ∷ Fss) rows (inr c) = shape_in (Gs ∷ Fss) rows.1 c

-- what is made of a meaning: for each row of its value, and of an attribute of another number
abbrev pub EachRow : (Fss : List (List Field)) → VariantRows Fss → Type 0 → Type 0
EachRow [] rows R = Item → R
EachRow (Fs ∷ []) rows R = Item → R
EachRow (Fs ∷ Gs ∷ Fss) rows R = (rows.0.V → R) × EachRow (Gs ∷ Fss) rows.1 R

abbrev pub by_row : (Fss : List (List Field)) (rows : VariantRows Fss) {R : Type 0} → EachRow Fss rows R → MeaningIn Fss rows → R
by_row [] rows made x = made x
by_row (Fs ∷ []) rows made x = made x
by_row (Fs ∷ Gs ∷ Fss) rows made (inl v) = made.0 v
by_row (Fs ∷ Gs ∷ Fss) rows made (inr m) = by_row (Gs ∷ Fss) rows.1 made.1 m

-- ---- numbers

abbrev pub has_number : (Fss : List (List Field)) → VariantRows Fss → ℕ → Bool
has_number [] rows k = false
has_number (Fs ∷ []) rows k = false
has_number (Fs ∷ Gs ∷ Fss) rows k = if k == rows.0.at.number then true else has_number (Gs ∷ Fss) rows.1 k

abbrev pub numbered : (Fss : List (List Field)) → VariantRows Fss → Bool
numbered [] rows = true
numbered (Fs ∷ []) rows = true
numbered (Fs ∷ Gs ∷ Fss) rows =
    number_of rows.0.at.number == rows.0.at.number && (not (has_number (Gs ∷ Fss) rows.1 rows.0.at.number) && numbered (Gs ∷ Fss) rows.1)

-- ---- the same as a table of rows

-- the rows of meanings that are part of M
abbrev pub row_in : {M : Type 0} (Fs Gs : List Field) (Fss : List (List Field)) (rows : VariantRows (Fs ∷ Gs ∷ Fss))
    → (MeaningIn (Fs ∷ Gs ∷ Fss) rows → M) → Row M
row_in Fs Gs Fss rows part = record { at = rows.0.at; V = rows.0.V; codec = rows.0.codec; variant = λ v. part (inl v) }

abbrev pub rows_in : {M : Type 0} (Fss : List (List Field)) (rows : VariantRows Fss) → (MeaningIn Fss rows → M) → List (Row M)
rows_in [] rows part = []
rows_in (Fs ∷ []) rows part = []
rows_in (Fs ∷ Gs ∷ Fss) rows part =
    row_in Fs Gs Fss rows part ∷ rows_in (Gs ∷ Fss) rows.1 (λ m. part (inr m))

-- ---- an enum's table

-- the rows, and the variants that they name; the numbers are apart, and the names at their places
pub record EnumTable (N : Record) : Type 1 where
  pub rows : VariantRows N.parts
  pub names : Names N.D N.parts
  pub apart : numbered N.parts rows ≡ true
  pub named : IsNamed N names

abbrev pub table_of : (N : Record) (rows : VariantRows N.parts × Names N.D N.parts) → numbered N.parts rows.0 ≡ true → IsNamed N rows.1 → EnumTable N
table_of N rows apart named = record { rows = rows.0; names = rows.1; apart = apart; named = named }

-- how meanings are written
abbrev pub writing_in : (Fss : List (List Field)) (rows : VariantRows Fss) → Writing (MeaningIn Fss rows)
writing_in Fss rows = writing_by (slot_in Fss rows)

-- the rows, and which meanings have bytes that are read as them
abbrev pub all_rows : (Fss : List (List Field)) (rows : VariantRows Fss) → List (Row (MeaningIn Fss rows))
all_rows Fss rows = rows_in Fss rows (λ m. m)

abbrev pub CoherentIn : (Fss : List (List Field)) (rows : VariantRows Fss) → MeaningIn Fss rows → Type 0
CoherentIn Fss rows m = IsSlot (all_rows Fss rows) (slot_in Fss rows m)
