-- A family that is said by a table, and the words of tables: what a table's file imports.
--     family_of_table      the family of an enum
--     Meanings, writing_of, attributes_of
--                          what an attribute is, how that is written, and what attributes mean
--     shape_by, shape-by   what is written of a value, by its variant: over many rows the prover finds that sooner
--     ValueAt, value_at, found_at
--                          what stands in the row of a number, the meaning that it makes, and the value of a meaning, if it stands there
--     table-read           what is read by the table is read by a row
--     made_of              what is made of a meaning, by its row
--     table_decides        `==` of the enum answers whether two values mean the same, given what it answers of each variant's field
use Rattle.std.specs.Prelude.{◌≡◌, ℕ, Bool, false, Option}
use Rattle.std.specs.Bool.{Decides}
use Rattle.npr_base.specs.EnumTable.{MeaningIn, meaning_in, other_in, slot_in, shape_in, ReadsIn, EachRow, by_row}
use Rattle.npr_base.specs.EnumTable.{all_rows, writing_in}
use Rattle.npr_base.specs.EnumFamily.{attributes_in}
use Rattle.npr_base.specs.lemmas.EnumTable.{rows-read, shape-in, FieldsDecide, choices-decide}
use Rattle.npr_base.specs.EnumTableValues.{ValueIn, value_in, found_in}
use Rattle.npr_base.specs.Framing.{Item, number_of}
use Rattle.npr_base.specs.Family.{Writing}
use Rattle.npr_base.specs.Table.{Slot, ReadsAt}
use denote.Enum.Compared.{Each, by}
use denote.Enum.Declared.{Record}
pub use Rattle.std.proofs.Common.{refl}
pub use Rattle.npr_base.specs.Codec.{exactly, leading, raw}
pub use Rattle.npr_base.specs.DroppedCodec.{dropped}
pub use Rattle.npr_base.specs.EnumTable.{EnumTable, table_of, row, marked_row, others, ◌or◌, ◌also◌, value, text, items, seen, listed, nothing}
pub use Rattle.npr_base.specs.FlagCodec.{flag}
pub use Rattle.npr_base.specs.IpCodec.{ip}
pub use Rattle.npr_base.specs.Layout.{byte, boolean, signed32, signed64, le16, le32, le64, be16, be32, be64, octets, octets4, octets16}
pub use Rattle.npr_base.specs.ListCodec.{list_of}
pub use Rattle.npr_base.specs.Name.{name}
pub use Rattle.npr_base.specs.UintCodec.{uint}
pub use Rattle.npr_base.specs.Family.{Shape, Reading, Family}

abbrev pub Meanings : {N : Record} → EnumTable N → Type 0
Meanings {N} t = MeaningIn N.parts t.rows

abbrev pub writing_of : {N : Record} (t : EnumTable N) → Writing (Meanings t)
writing_of {N} t = writing_in N.parts t.rows

-- where each meaning stands
abbrev pub slot_at : {N : Record} (t : EnumTable N) → Meanings t → Slot
slot_at {N} t m = slot_in N.parts t.rows m

abbrev pub attributes_of : {N : Record} (t : EnumTable N) → Reading (writing_of t)
attributes_of {N} t = attributes_in N.parts t.rows t.apart

-- what is read by a table is read by a row
pub table-read : {N : Record} (t : EnumTable N) (x : Item) (m : Meanings t) → ReadsIn N.parts t.rows (number_of x.kind) x m
    → ReadsAt (other_in N.parts t.rows) (all_rows N.parts t.rows) (number_of x.kind) x m
table-read {N} t x m p = rows-read N.parts t.rows x m p

-- what a value of the enum means by the table, and what attributes mean in a context
abbrev pub family_of_table : {N : Record} {C : Type 0} (t : EnumTable N) → (C → Reading (writing_of t)) → Family N.D C
family_of_table {N} t reading = record {
  Meaning = Meanings t;
  meaning = λ a. meaning_in N.parts t.rows (N.as_values a);
  writing = writing_of t;
  reading = reading;
}

abbrev pub shape_by : {N : Record} → EnumTable N → N.D → Shape
shape_by {N} t a = shape_in N.parts t.rows (N.as_values a)

pub shape-by : {N : Record} (t : EnumTable N) (a : N.D) → shape_by t a ≡ (writing_of t).shape (meaning_in N.parts t.rows (N.as_values a))
shape-by {N} t a = shape-in N.parts t.rows (N.as_values a)

abbrev pub ValueAt : {N : Record} → EnumTable N → ℕ → Type 0
ValueAt {N} t number = ValueIn N.parts t.rows number

abbrev pub value_at : {N : Record} (t : EnumTable N) (number : ℕ) → ValueAt t number → Meanings t
value_at {N} t number v = value_in N.parts t.rows number v

abbrev pub found_at : {N : Record} (t : EnumTable N) (number : ℕ) → Meanings t → Option (ValueAt t number)
found_at {N} t number m = found_in N.parts t.rows number m

abbrev pub made_of : {N : Record} (t : EnumTable N) {R : Type 0} → EachRow N.parts t.rows R → Meanings t → R
made_of {N} t made m = by_row N.parts t.rows made m

pub table_decides : {N : Record} (t : EnumTable N) (tests : Each Bool N.parts) → FieldsDecide N.parts t.rows tests → (a b : N.D)
    → Decides (by false false N.parts tests (N.as_values a) (N.as_values b))
    (meaning_in N.parts t.rows (N.as_values a) ≡ meaning_in N.parts t.rows (N.as_values b))
table_decides {N} t tests all a b = choices-decide N.parts t.rows tests all (N.as_values a) (N.as_values b)
