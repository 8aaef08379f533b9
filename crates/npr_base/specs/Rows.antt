-- Values with numbers, by a list of rows: each row is a number and the value that has it.
--     form_by       what a number reads as by rows
--     agrees_by     each row's value is written as the row's number
--     form_in, agrees, signed_form_in, signed_agrees      the two for unsigned and for signed numbers
--     number_by, number_in      the number of a value, where the rows stand in the order of its enum's variants
--     Named, numbered, text_in  rows with texts, and the text of a value by them
use Rattle.std.specs.Prelude.{ℕ, ℤ, Bool, true, ◌&&◌, List, [], ◌∷◌, map, nat_eq, if◌then◌else◌}
use Rattle.std.specs.Ordering.{int_eq}
use Rattle.std.proofs.Common.{inl, inr}
use denote.Struct.Field.{Field}
use denote.Struct.Values.{Values}
use denote.Enum.Declared.{Record, Choice}

-- the value of the first row with the number, or else what `other` makes of the number
abbrev pub form_by : {K V : Type 0} → (K → K → Bool) → (K → V) → List (K × V) → K → V
form_by same other [] d = other d
form_by same other (row ∷ rows) d = if same d row.0 then row.1 else form_by same other rows d

abbrev pub agrees_by : {K V : Type 0} → (K → K → Bool) → (V → K) → List (K × V) → Bool
agrees_by same number [] = true
agrees_by same number (row ∷ rows) = same (number row.1) row.0 && agrees_by same number rows

abbrev pub form_in : {V : Type 0} → (ℕ → V) → List (ℕ × V) → ℕ → V
form_in other rows d = form_by nat_eq other rows d

abbrev pub agrees : {V : Type 0} → (V → ℕ) → List (ℕ × V) → Bool
agrees number rows = agrees_by nat_eq number rows

abbrev pub signed_form_in : {V : Type 0} → (ℤ → V) → List (ℤ × V) → ℤ → V
signed_form_in other rows d = form_by int_eq other rows d

abbrev pub signed_agrees : {V : Type 0} → (V → ℤ) → List (ℤ × V) → Bool
signed_agrees number rows = agrees_by int_eq number rows

-- what the last variant of an enum holds
abbrev pub LastFields : List (List Field) → Type 0
LastFields [] = Unit {0}
LastFields (Fs ∷ []) = Values Fs
LastFields (Fs ∷ Gs ∷ Fss) = LastFields (Gs ∷ Fss)

-- of a list in the order of an enum's variants, what stands at a value's variant; of the last variant, which has no row, what
-- is made of its fields. N is `enum` of the type's module in `specs.contracts`
abbrev in_order : {A : Type 0} (Fss : List (List Field)) → A → List A → (LastFields Fss → A) → Choice Fss → A
in_order [] none xs last c = absurd c
in_order (Fs ∷ []) none xs last (inl values) = last values
in_order (Fs ∷ []) none xs last (inr c) = absurd c
in_order (Fs ∷ Gs ∷ Fss) none [] last c = none
in_order (Fs ∷ Gs ∷ Fss) none (x ∷ xs) last (inl values) = x
in_order (Fs ∷ Gs ∷ Fss) none (x ∷ xs) last (inr c) = in_order (Gs ∷ Fss) none xs last c

abbrev pub at_variant : {A : Type 0} (N : Record) → A → List A → (LastFields N.parts → A) → N.D → A
at_variant N none xs last x = in_order N.parts none xs last (N.as_values x)

-- the number of a value: that of its variant's row, or the one that the last variant holds
abbrev pub number_by : {K : Type 0} (N : Record) → K → List (K × N.D) → (LastFields N.parts → K) → N.D → K
number_by N none rows last x = at_variant N none (map (λ row. row.0) rows) last x

abbrev pub number_in : (N : Record) → List (ℕ × N.D) → (LastFields N.parts → ℕ) → N.D → ℕ
number_in N rows last x = number_by N 0 rows last x

-- a row with a text besides
abbrev pub Named : Type 0 → Type 0
Named V = ℕ × V × List ℕ

abbrev pub numbered : {V : Type 0} → List (Named V) → List (ℕ × V)
numbered rows = map (λ row. (row.0, row.1)) rows

abbrev pub text_in : (N : Record) → List (Named N.D) → (LastFields N.parts → List ℕ) → N.D → List ℕ
text_in N rows last x = at_variant N [] (map (λ row. row.2) rows) last x
