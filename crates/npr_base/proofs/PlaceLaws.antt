-- The place that a table gives a number has that number.
use Rattle.std.proofs.Common.{◌≡◌, ℕ, Bool, true, false, List, [], ◌∷◌, refl, sym}
use Rattle.std.specs.Prelude.{◌==◌, if◌then◌else◌}
use Rattle.std.proofs.lemmas.Bool.{eqb-true}
use Rattle.npr_base.specs.declared.attribute_set.At.{At}
use Rattle.npr_base.specs.declared.attribute_set.AttributeSet.{AttributeSet}
use Rattle.npr_base.specs.declared.value.Form.{Form}
use Rattle.npr_base.specs.EnumTable.{VariantRows, family_in, form_in}
use Rattle.npr_base.specs.Tables.{EnumTable}
use denote.Enum.Declared.{Record}
use denote.Struct.Field.{Field}

number-or : (b : Bool) (k : ℕ) (f g : At × Form) → (b ≡ true → f.0.number ≡ k) → g.0.number ≡ k → (if b then f else g).0.number ≡ k
number-or true k f g here later = here refl
number-or false k f g here later = later

number-in : (family : AttributeSet) (Fss : List (List Field)) (rows : VariantRows Fss) (k : ℕ) → (form_in family Fss rows k).0.number ≡ k
number-in family [] rows k = refl
number-in family (Fs ∷ []) rows k = refl
number-in family (Fs ∷ Gs ∷ Fss) rows k =
    number-or (k == rows.0.at.number) k (rows.0.at, rows.0.codec.showing.form) (form_in family (Gs ∷ Fss) rows.1 k)
    (λ e. sym (eqb-true k rows.0.at.number e)) (number-in family (Gs ∷ Fss) rows.1 k)

pub place-number : {N : Record} (t : EnumTable N) (k : ℕ) → (form_in (family_in N.parts t.rows) N.parts t.rows k).0.number ≡ k
place-number {N} t k = number-in (family_in N.parts t.rows) N.parts t.rows k
