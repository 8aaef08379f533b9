-- Reading a text from the front: what may stand behind what was read.
use Rattle.std.specs.Prelude.{◌≡◌, ◌⊎◌, ◌+◌, ◌*◌, ◌<◌, ◌++◌, ℕ, List, ◌∷◌, Option, Some, IsTrue, option_to_list}
use Rattle.hex.specs.Hex.{hex_digit_value}
use Rattle.hex_text.specs.HexText.{IsHexText, after_line, is_x}
use Rattle.hex_text.specs.declared.state.State.{State}
use Rattle.hex_text.specs.declared.state.State.TheVariants.{Between, Half, Comment}

-- a digit has a value below 16
abbrev pub IsState : State → Type 0
IsState (Half high) = high < 16
IsState state = Unit {0}

-- what stands behind a first digit of this value: the x of a prefix, or a second digit
abbrev pub ReadsHalf : ℕ → ℕ → List ℕ → List ℕ → Type 0
ReadsHalf high low rest bytes =
    ((high ≡ 0) × IsTrue (is_x low) × IsHexText rest bytes)
    ⊎ ((l : ℕ) × (more : List ℕ) × (hex_digit_value low ≡ Some l) × (bytes ≡ (high * 16 + l) ∷ more) × IsHexText rest more)

-- the text stands for the bytes behind what was read
abbrev pub ReadsFrom : State → List ℕ → List ℕ → Type 0
ReadsFrom Between text bytes = IsHexText text bytes
ReadsFrom (Half high) text bytes = (low : ℕ) × (rest : List ℕ) × (text ≡ low ∷ rest) × ReadsHalf high low rest bytes
ReadsFrom Comment text bytes = IsHexText (after_line text) bytes

-- with this byte in front a text stands for bytes exactly if the rest does in the next state, behind those that end there
abbrev pub Leads : State → ℕ → State → Option ℕ → Type 0
Leads state c next ended = (rest bytes : List ℕ)
    → (ReadsFrom state (c ∷ rest) bytes → (more : List ℕ) × (bytes ≡ option_to_list ended ++ more) × ReadsFrom next rest more)
    × ((more : List ℕ) → ReadsFrom next rest more → ReadsFrom state (c ∷ rest) (option_to_list ended ++ more))

-- with this byte in front no text stands for bytes
abbrev pub Stops : State → ℕ → Type 0
Stops state c = (rest bytes : List ℕ) → ¬ ReadsFrom state (c ∷ rest) bytes
