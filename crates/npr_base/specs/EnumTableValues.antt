-- Meanings by the numbers of their rows, for contracts of callers.
--     ValueIn       what stands in the row of a number
--     value_in      the meaning that such a value makes
--     found_in      the value of a meaning, where it stands in the row of the number
use Rattle.std.specs.Prelude.{ℕ, ◌==◌, Bool, true, false, List, [], ◌∷◌, Option, Some, None}
use Rattle.std.specs.Bool.{MatchBool}
use Rattle.std.proofs.Common.{inl, inr}
use Rattle.npr_base.specs.EnumTable.{VariantRows, MeaningIn}
use denote.Struct.Field.{Field}

abbrev pub ValueIn : (Fss : List (List Field)) → VariantRows Fss → ℕ → Type 0
ValueIn [] rows k = ⊥
ValueIn (Fs ∷ []) rows k = ⊥
ValueIn (Fs ∷ Gs ∷ Fss) rows k = MatchBool (k == rows.0.at.number) rows.0.V (ValueIn (Gs ∷ Fss) rows.1 k)

abbrev either : {P Q R : Type 0} (b : Bool) → (P → R) → (Q → R) → MatchBool b P Q → R
either true f g p = f p
either false f g p = g p

abbrev pub value_in : (Fss : List (List Field)) (rows : VariantRows Fss) (k : ℕ) → ValueIn Fss rows k → MeaningIn Fss rows
value_in [] rows k v = absurd v
value_in (Fs ∷ []) rows k v = absurd v
value_in (Fs ∷ Gs ∷ Fss) rows k v = either (k == rows.0.at.number) (λ here. inl here) (λ behind. inr (value_in (Gs ∷ Fss) rows.1 k behind)) v

module _ (P Q : Type 0) where
  abbrev here : (b : Bool) → P → Option (MatchBool b P Q)
  here true p = Some p
  here false p = None

  abbrev behind : (b : Bool) → Option Q → Option (MatchBool b P Q)
  behind true found = None
  behind false found = found

abbrev pub found_in : (Fss : List (List Field)) (rows : VariantRows Fss) (k : ℕ) → MeaningIn Fss rows → Option (ValueIn Fss rows k)
found_in [] rows k x = None
found_in (Fs ∷ []) rows k x = None
found_in (Fs ∷ Gs ∷ Fss) rows k (inl v) = here rows.0.V (ValueIn (Gs ∷ Fss) rows.1 k) (k == rows.0.at.number) v
found_in (Fs ∷ Gs ∷ Fss) rows k (inr m) = behind rows.0.V (ValueIn (Gs ∷ Fss) rows.1 k) (k == rows.0.at.number) (found_in (Gs ∷ Fss) rows.1 k m)
