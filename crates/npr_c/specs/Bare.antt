-- The values of an enum whose variants have no fields, by the places of the variants: the number that a cast gives.
--     bare_of       the value at a place, or else another
--     bare-back     each stands at its place
--     bare-below    every place is below the count of the variants
--     bare-past     past the last there is none
use Rattle.std.specs.Prelude.{◌≡◌, ◌<◌, ◌≤◌, ◌⊎◌, ℕ, List, [], ◌∷◌, length, Option, Some, None}
use Rattle.std.proofs.Common.{inl, inr, zero, suc, refl, ap, ◌∙◌, arith}
use denote.Enum.Declared.{Record, Choice, intoss, rowss}
use denote.Enum.Enum.{tag}
use denote.Struct.Field.{Field}

abbrev pub IsBare : List (List Field) → Type 0
IsBare [] = Unit {0}
IsBare ([] ∷ Fss) = IsBare Fss
IsBare ((F ∷ Fs) ∷ Fss) = ⊥

abbrev pub over : {A B : Type 0} → Option B → Option (A ⊎ B)
over None = None
over (Some c) = Some (inr c)

abbrev pub choice_in : (Fss : List (List Field)) → IsBare Fss → ℕ → Option (Choice Fss)
choice_in [] bare n = None
choice_in ([] ∷ Fss) bare zero = Some (inl tt)
choice_in ([] ∷ Fss) bare (suc n) = over (choice_in Fss bare n)
choice_in ((F ∷ Fs) ∷ Fss) bare n = absurd bare

abbrev pub made_or : (N : Record) → N.D → Option (Choice N.parts) → N.D
made_or N other None = other
made_or N other (Some c) = N.make c

abbrev pub bare_of : (N : Record) → IsBare N.parts → N.D → ℕ → N.D
bare_of N bare other n = made_or N other (choice_in N.parts bare n)

choice-back : (Fss : List (List Field)) (bare : IsBare Fss) (c : Choice Fss) → choice_in Fss bare (tag (rowss Fss) (intoss Fss c)) ≡ Some c
choice-back [] bare c = absurd c
choice-back ([] ∷ Fss) bare (inl v) = refl
choice-back ([] ∷ Fss) bare (inr c) = ap over (choice-back Fss bare c)
choice-back ((F ∷ Fs) ∷ Fss) bare c = absurd bare

choice-below : (Fss : List (List Field)) (bare : IsBare Fss) (c : Choice Fss) → tag (rowss Fss) (intoss Fss c) < length Fss
choice-below [] bare c = absurd c
choice-below ([] ∷ Fss) bare (inl v) = omega arith
choice-below ([] ∷ Fss) bare (inr c) = omega (arith, choice-below Fss bare c)
choice-below ((F ∷ Fs) ∷ Fss) bare c = absurd bare

choice-past : (Fss : List (List Field)) (bare : IsBare Fss) (n : ℕ) → length Fss ≤ n → choice_in Fss bare n ≡ None
choice-past [] bare n le = refl
choice-past ([] ∷ Fss) bare zero le = absurd (omega (arith, le))
choice-past ([] ∷ Fss) bare (suc n) le = ap over (choice-past Fss bare n (omega (arith, le)))
choice-past ((F ∷ Fs) ∷ Fss) bare n le = absurd bare

module _ (N : Record) (bare : IsBare N.parts) (other : N.D) where
  pub bare-back : (x : N.D) → bare_of N bare other (tag (rowss N.parts) (intoss N.parts (N.as_values x))) ≡ x
  bare-back x = ap (made_or N other) (choice-back N.parts bare (N.as_values x)) ∙ N.eta x

  pub bare-below : (x : N.D) → tag (rowss N.parts) (intoss N.parts (N.as_values x)) < length N.parts
  bare-below x = choice-below N.parts bare (N.as_values x)

  pub bare-past : (n : ℕ) → length N.parts ≤ n → bare_of N bare other n ≡ other
  bare-past n le = ap (made_or N other) (choice-past N.parts bare n le)
