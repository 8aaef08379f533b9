-- Texts that end with one zero, which may be missing where they are read.
use Rattle.std.specs.Prelude.{◌≡◌, ◌≢◌, ℕ, ◌⊎◌, List, [], ◌∷◌, ◌++◌}
use Rattle.std.specs.Str.{IsUtf8}

-- the text, with one final zero taken off where there is one
abbrev pub IsUnterminated : List ℕ → List ℕ → Type 0
IsUnterminated bytes text = (bytes ≡ text ++ 0 ∷ []) ⊎ ((bytes ≡ text) × ((front : List ℕ) → bytes ≢ front ++ 0 ∷ []))

-- the bytes are a UTF-8 text, with or without its zero
abbrev pub IsName : List ℕ → List ℕ → Type 0
IsName bytes text = IsUtf8 text × IsUnterminated bytes text

-- what stands in front of the zero is no UTF-8
pub record IsNoName (bytes : List ℕ) : Type 0 where
  pub no_text : (text : List ℕ) → IsUnterminated bytes text → IsUtf8 text → ⊥
