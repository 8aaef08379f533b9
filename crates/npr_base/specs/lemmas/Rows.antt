-- The number of what a number reads as is that number, where the rows agree: one computed test for a whole table.
use Rattle.std.specs.Prelude.{◌≡◌, Bool, true, false, List, [], ◌∷◌, if◌then◌else◌}
use Rattle.std.proofs.Common.{refl, sym, ◌∙◌}
use Rattle.std.specs.Cmp.{first_so, second_so}
use Rattle.npr_base.specs.Equality.{IsEquality}
use Rattle.npr_base.specs.Rows.{form_by, agrees_by}

module _ {K V : Type 0} (number : V → K) where
  number-if : (b : Bool) (x y : V) (d : K) → (b ≡ true → number x ≡ d) → number y ≡ d → number (if b then x else y) ≡ d
  number-if true x y d here later = here refl
  number-if false x y d here later = later

  pub number-form_by : (same : K → K → Bool) → IsEquality same → (other : K → V) → ((d : K) → number (other d) ≡ d) → (rows : List (K × V))
      → agrees_by same number rows ≡ true → (d : K) → number (form_by same other rows d) ≡ d
  number-form_by same decides other back [] h d = back d
  number-form_by same decides other back (row ∷ rows) h d =
      let here = (decides (number row.1) row.0).0 (first_so (same (number row.1) row.0) (agrees_by same number rows) h) in
      let later = second_so (same (number row.1) row.0) (agrees_by same number rows) h in
      number-if (same d row.0) row.1 (form_by same other rows d) d (λ e. here
      ∙ sym ((decides d row.0).0 e)) (number-form_by same decides other back rows later d)
