-- Tables of numbers: how the attributes of a family are read and written by rows.
use Rattle.std.specs.Prelude.{◌≡◌, ℕ, ◌<◌, ◌^◌, ◌==◌, Bool, true, false, List, [], ◌∷◌, Option, None, if◌then◌else◌}
use Rattle.std.specs.Bool.{MatchBool}
use Rattle.std.proofs.Common.{refl, ◌≡◌, ℕ, ◌<◌, ◌^◌, Bool, true, false, List, ◌∷◌}
use Rattle.npr_base.specs.declared.attribute_set.At.{At}
use Rattle.npr_base.specs.declared.attribute_set.AttributeSet.{AttributeSet}
use Rattle.npr_base.specs.declared.refusal.DecodeError.{DecodeError}
use Rattle.npr_base.specs.declared.refusal.EmitError.{EmitError}
use Rattle.npr_base.specs.declared.attribute_set.AttributeSet.TheVariants.{Value as OfValue}
use Rattle.npr_base.specs.declared.value.Form.{Form}
use Rattle.npr_base.specs.declared.value.Form.TheVariants.{Raw}
use Rattle.npr_base.specs.Framing.{Item, Proper, marked, number_of}
use Rattle.npr_base.specs.Family.{Shape, Writing, written_by}
use Rattle.npr_base.specs.Codec.{Codec, raw}
use Rattle.npr_base.specs.Refusal.{at_number}
use Rattle.npr_base.specs.Value.{Shown, are_bytes}
use Rattle.npr_base.specs.Looks.{Looking}
use Rattle.npr_base.specs.Looking.{no_looking, looking_inside}

-- a row of a table: where it stands, how its values are read and written, and what they mean
pub record Row (M : Type 0) : Type 1 where
  pub at : At
  pub V : Type 0
  pub codec : Codec V
  pub variant : V → M

abbrev pub row : {M V : Type 0} → AttributeSet → ℕ → Codec V → (V → M) → Row M
row {M} {V} family number codec variant = record { at = at_number family number; V = V; codec = codec; variant = variant }

-- what bytes mean by a row, and why they mean nothing
abbrev pub RowReads : {M : Type 0} → Row M → List ℕ → M → Type 0
RowReads r bytes m = (v : r.V) × r.codec.Reads bytes v × (m ≡ r.variant v)

abbrev pub RowWrong : {M : Type 0} → Row M → List ℕ → DecodeError → Type 0
RowWrong r bytes e = r.codec.Wrong r.at bytes e

-- what an attribute of the number k means: the variant of its row, or else itself
abbrev pub ReadsAt : {M : Type 0} → (Item → M) → List (Row M) → ℕ → Item → M → Type 0
ReadsAt other [] k x m = m ≡ other x
ReadsAt other (r ∷ rows) k x m = MatchBool (k == r.at.number) (RowReads r x.value m) (ReadsAt other rows k x m)

abbrev pub WrongAt : {M : Type 0} → List (Row M) → ℕ → Item → DecodeError → Type 0
WrongAt [] k x e = ⊥
WrongAt (r ∷ rows) k x e = MatchBool (k == r.at.number) (RowWrong r x.value e) (WrongAt rows k x e)

-- by a number: where it stands, and how its value is read without memory. A number without a row stands in the family of the
-- first row, and its bytes are left as they are
abbrev pub form_from : {M : Type 0} → AttributeSet → List (Row M) → ℕ → At × Form
form_from family [] k = (at_number family k, Raw)
form_from family (r ∷ rows) k = if k == r.at.number then (r.at, r.codec.showing.form) else form_from family rows k

abbrev pub first_family : {M : Type 0} → List (Row M) → AttributeSet
first_family [] = OfValue
first_family (r ∷ rows) = r.at.set

-- the number has a row
abbrev pub has_row : {M : Type 0} → List (Row M) → ℕ → Bool
has_row [] k = false
has_row (r ∷ rows) k = if k == r.at.number then true else has_row rows k

-- an attribute that is kept as it stands, since its number has no row
pub record IsOther {M : Type 0} (rows : List (Row M)) (x : Item) : Type 0 where
  pub proper : Proper x
  pub alone : has_row rows (number_of x.kind) ≡ false

-- a value in its place: the kind that is written, whether NESTED is set in it besides, and the value under its codec; or an
-- attribute that is kept as it stands
pub data Slot : Type 1 where
  slot_marked : {V : Type 0} → Bool → ℕ → Codec V → V → Slot
  slot_other : Item → Slot

abbrev pub slot_plain : {V : Type 0} → ℕ → Codec V → V → Slot
slot_plain kind codec value = slot_marked false kind codec value

abbrev pub slot_kind : Slot → ℕ
slot_kind (slot_marked nested kind codec value) = kind
slot_kind (slot_other x) = x.kind

abbrev pub slot_nested : Slot → Bool
slot_nested (slot_marked nested kind codec value) = nested
slot_nested (slot_other x) = false

abbrev pub SlotType : Slot → Type 0
SlotType (slot_marked {V} nested kind codec value) = V
SlotType (slot_other x) = List ℕ

abbrev pub slot_codec : (h : Slot) → Codec (SlotType h)
slot_codec (slot_marked nested kind codec value) = codec
slot_codec (slot_other x) = raw

abbrev pub slot_value : (h : Slot) → SlotType h
slot_value (slot_marked nested kind codec value) = value
slot_value (slot_other x) = x.value

-- what its codec says of it
abbrev pub slot_bytes : Slot → List ℕ
slot_bytes (slot_marked nested kind codec value) = codec.encode value
slot_bytes (slot_other x) = x.value

abbrev pub slot_unfit : Slot → Option EmitError
slot_unfit (slot_marked nested kind codec value) = codec.unfit kind value
slot_unfit (slot_other x) = None

abbrev pub slot_members : Slot → ℕ
slot_members (slot_marked nested kind codec value) = codec.members.count value
slot_members (slot_other x) = 0

-- what it is seen as in bytes
abbrev pub slot_sees : Slot → List ℕ → Shown
slot_sees (slot_marked nested kind codec value) b = codec.showing.sees b value
slot_sees (slot_other x) b = are_bytes b

-- its codec can hold it, or no row has its number
abbrev pub IsSlot : {M : Type 0} → List (Row M) → Slot → Type 0
IsSlot rows (slot_marked nested kind codec value) = codec.Holds value
IsSlot rows (slot_other x) = IsOther rows x

-- where nothing inside forbids it, its bytes mean it again
pub slot-reads : {M : Type 0} (rows : List (Row M)) (h : Slot) → IsSlot rows h → slot_unfit h ≡ None → (slot_codec h).Reads (slot_bytes h) (slot_value h)
slot-reads rows (slot_marked nested kind codec value) is fits = codec.reads_back kind value is fits
slot-reads rows (slot_other x) is fits = refl

-- before NESTED is set in its kind, and after
abbrev pub plain_item : Slot → Item
plain_item h = record { kind = slot_kind h; value = slot_bytes h }

abbrev pub item_of : Slot → Item
item_of h = record { kind = marked (slot_nested h) (slot_kind h); value = slot_bytes h }

abbrev pub shape_at : Slot → Shape
shape_at h = record { item = plain_item h; nested = slot_nested h; unfit = slot_unfit h }

-- meanings are written each from its place
abbrev pub writing_by : {M : Type 0} → (M → Slot) → Writing M
writing_by slot_of =
    record {
      shape = λ m. shape_at (slot_of m);
      members = λ m. slot_members (slot_of m);
    }

-- what each is seen as from its place
abbrev pub seen_by : {M : Type 0} → (M → Slot) → M → List ℕ → Shown
seen_by slot_of m = slot_sees (slot_of m)

-- each row's variant is written by that row with the attributes inside it, is coherent where the row can hold its value, and is
-- seen as the row sees it
abbrev pub IsWritten : {M : Type 0} (slot_of : M → Slot) (Coherent : M → Type 0) (r : Row M) → r.V → Type 0
IsWritten slot_of Coherent r v =
    let w = writing_by slot_of in
    ((written_by w (r.variant v)).value ≡ r.codec.encode v) × (w.members (r.variant v) ≡ r.codec.members.count v)
    × (r.codec.Holds v → Coherent (r.variant v)) × ((b : List ℕ) → seen_by slot_of (r.variant v) b ≡ r.codec.showing.sees b v)

-- and each row has a number of its own
abbrev pub Aligned : {M : Type 0} → (M → Slot) → (M → Type 0) → List (Row M) → Type 0
Aligned slot_of Coherent [] = Unit {0}
Aligned slot_of Coherent (r ∷ rows) = ((v : r.V) → IsWritten slot_of Coherent r v) × (has_row rows r.at.number ≡ false) × Aligned slot_of Coherent rows

-- a table: its rows, what an attribute of another number means, the place of each meaning, and which are coherent
pub record Table (M : Type 0) : Type 1 where
  pub rows : List (Row M)
  pub other : Item → M
  pub slot_of : M → Slot
  pub Coherent : M → Type 0
  pub aligned : Aligned slot_of Coherent rows
  pub other_is : (x : Item) → slot_of (other x) ≡ slot_other x
  pub other_coherent : (x : Item) → IsOther rows x → Coherent (other x)
  pub kinds : (m : M) → Coherent m → slot_kind (slot_of m) < 2 ^ 16
  pub back : (m : M) → Coherent m → slot_unfit (slot_of m) ≡ None → ReadsAt other rows (number_of (item_of (slot_of m)).kind) (item_of (slot_of m)) m

abbrev pub table_with : {M : Type 0} (rows : List (Row M)) (other : Item → M) (slot_of : M → Slot) (Coherent : M → Type 0)
    → Aligned slot_of Coherent rows → ((x : Item) → slot_of (other x) ≡ slot_other x) → ((x : Item) → IsOther rows x → Coherent (other x))
    → ((m : M) → Coherent m → slot_kind (slot_of m) < 2 ^ 16)
    → ((m : M) → Coherent m → slot_unfit (slot_of m) ≡ None → ReadsAt other rows (number_of (item_of (slot_of m)).kind) (item_of (slot_of m)) m) → Table M
table_with rows other slot_of Coherent aligned other_is other_coherent kinds back = record {
  rows = rows;
  other = other;
  slot_of = slot_of;
  Coherent = Coherent;
  aligned = aligned;
  other_is = other_is;
  other_coherent = other_coherent;
  kinds = kinds;
  back = back;
}

-- those of a table are those inside the values of its rows
abbrev pub looks_of : {M : Type 0} → List (Row M) → Looking Item
looks_of [] = no_looking
looks_of (r ∷ rows) = looking_inside r.at.number r.codec.members.looks (looks_of rows)
