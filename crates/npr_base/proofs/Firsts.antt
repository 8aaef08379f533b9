-- `==` of an enum whose first variant means what no other does, and the fields of that variant.
use Rattle.std.proofs.Common.{◌≡◌, Bool, false, List, [], ◌∷◌, inl, inr, sym, true≢false}
use Rattle.std.specs.Bool.{Decides}
use denote.Enum.Compared.{Each, by}
use denote.Enum.Declared.{Choice}
use denote.Struct.Field.{Field}
use denote.Struct.Values.{Values}

abbrev pub head_of : List (List Field) → List Field
head_of [] = []
head_of (Fs ∷ Fss) = Fs

-- it answers whether two values mean the same, given what it answers of the first variant and of the others
module _ {M : Type 0} (Fs : List Field) (Fss : List (List Field)) (meaning : Choice (Fs ∷ Fss) → M) (tests : Each Bool (Fs ∷ Fss))
    (here : (x y : Values Fs) → Decides (tests.0 x y) (meaning (inl x) ≡ meaning (inl y)))
    (later : (c d : Choice Fss) → Decides (by false false Fss tests.1 c d) (meaning (inr c) ≡ meaning (inr d)))
    (apart : (x : Values Fs) (c : Choice Fss) → meaning (inl x) ≡ meaning (inr c) → ⊥) where
  pub first-decides : (c d : Choice (Fs ∷ Fss)) → Decides (by false false (Fs ∷ Fss) tests c d) (meaning c ≡ meaning d)
  first-decides (inl x) (inl y) = here x y
  first-decides (inl x) (inr d) = (λ e. absurd (true≢false (sym e)), λ e. absurd (apart x d e))
  first-decides (inr c) (inl y) = (λ e. absurd (true≢false (sym e)), λ e. absurd (apart y c (sym e)))
  first-decides (inr c) (inr d) = later c d
