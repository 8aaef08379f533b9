-- Lines of a text, and where in them it ends.
use Rattle.std.specs.Prelude.{◌≡◌, ◌⊎◌, ◌==◌, ◌+◌, ◌++◌, ℕ, List, [], ◌∷◌, codes, cond, decimal, length}

-- how many lines end in the text
abbrev pub ends_in : List ℕ → ℕ
ends_in [] = 0
ends_in (c ∷ text) = cond (c == 10) 1 0 + ends_in text

-- where a text goes on: by the line, and by the byte in the line, each from 1 on
pub record IsPlace (text : List ℕ) (line column : ℕ) : Type 0 where
  pub before : List ℕ
  pub last : List ℕ
  pub is : text ≡ before ++ last
  pub line_is : line ≡ 1 + ends_in before
  pub column_is : column ≡ 1 + length last
  pub open_line : ends_in last ≡ 0
  pub begun : (before ≡ []) ⊎ ((more : List ℕ) × (before ≡ more ++ 10 ∷ []))

abbrev pub place_text : ℕ → ℕ → List ℕ
place_text line column = codes "line " ++ decimal line ++ codes ", column " ++ decimal column
