-- Lists of attributes that stand in values, and values with readers of their own, as the forms of rows say. What is inside is named
-- by an index I: of it, `of` gives the reading, and `In set bytes i` says that a list of the set in a value of these bytes is one of
-- i. `Own number` says that a value of this number has a reader of its own.
--     AnyReading       what attributes mean, with what they mean
--     Lists            a value means something exactly where such a list stands in it, and its first fault is that of the list
--     Opened           the same where a form says that there is a list; and where it says that there is a reader, there is one
--     Nests            of each attribute of a reading
--     NestRows         of the rows of a table that hold lists or have readers: what a table owes
--     has_list         by its form a value holds a list
use Rattle.std.specs.Prelude.{ℕ, ◌<◌, ◌≤◌, Bool, false, not, nat_lt, List, [], ◌∷◌, length, drop}
use Rattle.npr_base.specs.declared.attribute_set.At.{At}
use Rattle.npr_base.specs.declared.attribute_set.AttributeSet.{AttributeSet}
use Rattle.npr_base.specs.declared.refusal.DecodeError.{DecodeError}
use Rattle.npr_base.specs.declared.refusal.DecodeError.TheVariants.{HeaderTooShort}
use Rattle.npr_base.specs.declared.value.Form.{Form}
use Rattle.npr_base.specs.declared.value.Form.TheVariants.{List as Listed, Inside}
use Rattle.npr_base.specs.Codec.{Codec}
use Rattle.npr_base.specs.EnumTable.{VariantRows}
use Rattle.npr_base.specs.Family.{Writing, Reading}
use Rattle.npr_base.specs.Framing.{Item, number_of}
use Rattle.npr_base.specs.Lists.{ReadsList, FirstFault}
use Rattle.npr_base.specs.Table.{Row}
use denote.Struct.Field.{Field}

-- what attributes mean, with what they mean
pub record AnyReading : Type 1 where
  pub Meaning : Type 0
  pub writing : Writing Meaning
  pub reading : Reading writing

abbrev pub any_reading : {M : Type 0} {w : Writing M} → Reading w → AnyReading
any_reading {M} {w} f = record { Meaning = M; writing = w; reading = f }

-- the bytes are a list of its attributes, and their first fault
abbrev pub IsListOf : AnyReading → List ℕ → Type 0
IsListOf r bytes = (ms : List r.Meaning) × ReadsList r.reading.Reads bytes ms

abbrev pub IsFaultOf : AnyReading → List ℕ → DecodeError → Type 0
IsFaultOf r bytes e = FirstFault r.reading.Reads r.reading.Faulty bytes e

-- by its form a value holds a list, behind bytes that it has
abbrev pub has_list : Form → List ℕ → Bool
has_list (Listed set front) bytes = not (nat_lt (length bytes) front)
has_list form bytes = false

module _ {I : Type 0} (of : I → AnyReading) (In : AttributeSet → List ℕ → I → Type 0) (Own : ℕ → Type 0) where
  pub record Lists {M : Type 0} (Means : M → Type 0) (Faulty : DecodeError → Type 0) (set : AttributeSet) (front : ℕ) (bytes : List ℕ) : Type 0 where
    pub down : (i : I) (m : M) → In set bytes i → Means m → IsListOf (of i) (drop front bytes)
    pub up : (i : I) → In set bytes i → front ≤ length bytes → IsListOf (of i) (drop front bytes) → (m : M) × Means m
    pub fault : (i : I) (e : DecodeError) → In set bytes i → front ≤ length bytes → IsFaultOf (of i) (drop front bytes) e → Faulty e
    pub cut : length bytes < front → Faulty (HeaderTooShort (length bytes) front)

  abbrev pub Opened : {M : Type 0} → ℕ → Form → (M → Type 0) → (DecodeError → Type 0) → List ℕ → Type 0
  Opened number (Listed set front) Means Faulty bytes = Lists Means Faulty set front bytes
  Opened number Inside Means Faulty bytes = Own number
  Opened number form Means Faulty bytes = Unit {0}

  abbrev pub Nests : {M : Type 0} {w : Writing M} → Reading w → Type 0
  Nests f = (x : Item) → Opened (number_of x.kind) (f.seeing.form_at (number_of x.kind)).1 (f.Reads x) (f.Faulty x) x.value

  -- ---- in tables

  abbrev pub ListRow : {V : Type 0} → Codec V → AttributeSet → ℕ → Type 0
  ListRow codec set front = (at : At) (bytes : List ℕ) → Lists (codec.Reads bytes) (codec.Wrong at bytes) set front bytes

  abbrev pub RowAnd : {V : Type 0} → ℕ → Codec V → Form → Type 0 → Type 0
  RowAnd number codec (Listed set front) rest = ListRow codec set front × rest
  RowAnd number codec Inside rest = Own number × rest
  RowAnd number codec form rest = rest

  abbrev pub NestRows : (Fss : List (List Field)) → VariantRows Fss → Type 0
  NestRows [] rows = Unit {0}
  NestRows (Fs ∷ []) rows = Unit {0}
  NestRows (Fs ∷ Gs ∷ Fss) rows = RowAnd rows.0.at.number rows.0.codec rows.0.codec.showing.form (NestRows (Gs ∷ Fss) rows.1)

  abbrev pub NestList : {M : Type 0} → List (Row M) → Type 0
  NestList [] = Unit {0}
  NestList (r ∷ rows) = RowAnd r.at.number r.codec r.codec.showing.form (NestList rows)
