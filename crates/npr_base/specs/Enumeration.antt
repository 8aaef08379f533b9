-- Numberings by rows.
--     by_rows, by_signed_rows      a numbering by such rows
--     enumeration                  one by rows in the order of an enum's variants, whose last holds any other number
use Rattle.std.specs.Prelude.{◌≡◌, ℕ, ℤ, true, List, nat_eq}
use Rattle.std.specs.Ordering.{int_eq}
use Rattle.std.specs.Cmp.{unsigned_Decides, signed_Decides}
use Rattle.npr_base.specs.Numbering.{Numbering}
use Rattle.npr_base.specs.Rows.{form_in, agrees, signed_form_in, signed_agrees, LastFields, number_in}
use denote.Enum.Declared.{Record}
use Rattle.npr_base.specs.lemmas.Rows.{number-form_by}

abbrev pub by_rows : {V : Type 0} (number : V → ℕ) (other : ℕ → V) (rows : List (ℕ × V)) → ((d : ℕ) → number (other d) ≡ d) → agrees number rows ≡ true
    → Numbering ℕ V
by_rows number other rows back same = record {
  of = form_in other rows;
  number = number;
  back = number-form_by number nat_eq unsigned_Decides other back rows same;
}

abbrev pub by_signed_rows : {V : Type 0} (number : V → ℤ) (other : ℤ → V) (rows : List (ℤ × V)) → ((d : ℤ) → number (other d) ≡ d)
    → signed_agrees number rows ≡ true → Numbering ℤ V
by_signed_rows number other rows back same = record {
  of = signed_form_in other rows;
  number = number;
  back = number-form_by number int_eq signed_Decides other back rows same;
}

abbrev pub enumeration : (N : Record) (rows : List (ℕ × N.D)) (other : ℕ → N.D) (last : LastFields N.parts → ℕ)
    → ((d : ℕ) → number_in N rows last (other d) ≡ d) → agrees (number_in N rows last) rows ≡ true → Numbering ℕ N.D
enumeration N rows other last back same = by_rows (number_in N rows last) other rows back same
