-- Hexadecimal text: pairs of digits in either case. Before, between and behind pairs may stand blanks, colons and `0x`, and from `#` on
-- a comment to the end of its line.
use Rattle.std.specs.Prelude.{◌≡◌, ◌==◌, ◌||◌, ◌+◌, ◌*◌, ◌<◌, ◌≤◌, ◌++◌, ℕ, Bool, List, [], ◌∷◌, Some, IsTrue, cond, length, take}
use Rattle.hex.specs.Hex.{hex_digit_value}

-- a space, a tab, a line feed, a carriage return or a colon
unfoldable pub is_blank : ℕ → Bool
is_blank c = (c == 32) || (c == 9) || (c == 10) || (c == 13) || (c == 58)

-- the letter x
unfoldable pub is_x : ℕ → Bool
is_x c = (c == 120) || (c == 88)

-- what stands behind the first end of a line
abbrev pub after_line : List ℕ → List ℕ
after_line [] = []
after_line (c ∷ text) = cond (c == 10) text (after_line text)

-- the digits `high` and `low` stand for `byte`
abbrev pub IsPair : ℕ → ℕ → ℕ → Type 0
IsPair high low byte =
    (h : ℕ) × (l : ℕ) × (hex_digit_value high ≡ Some h) × (hex_digit_value low ≡ Some l) × (h * 16 + l ≡ byte)

-- the text stands for the bytes
pub data IsHexText : List ℕ → List ℕ → Type 0 where
  done : IsHexText [] []
  blank : {c : ℕ} {text bytes : List ℕ} → IsTrue (is_blank c) → IsHexText text bytes → IsHexText (c ∷ text) bytes
  comment : {c : ℕ} {text bytes : List ℕ} → c ≡ 35 → IsHexText (after_line text) bytes → IsHexText (c ∷ text) bytes
  prefix : {c x : ℕ} {text bytes : List ℕ} → c ≡ 48 → IsTrue (is_x x) → IsHexText text bytes → IsHexText (c ∷ x ∷ text) bytes
  pair : {high low byte : ℕ} {text bytes : List ℕ} → IsPair high low byte → IsHexText text bytes
      → IsHexText (high ∷ low ∷ text) (byte ∷ bytes)

-- the text stands for no bytes
abbrev pub IsNoHexText : List ℕ → Type 0
IsNoHexText text = (bytes : List ℕ) → ¬ IsHexText text bytes

-- the text stands for no bytes besides those that it stands for
abbrev pub HasOneReading : List ℕ → Type 0
HasOneReading text = (bytes other : List ℕ) → IsHexText text bytes → IsHexText text other → bytes ≡ other

-- some text that begins so stands for bytes
abbrev pub Begins : List ℕ → Type 0
Begins front = (rest bytes : List ℕ) × IsHexText (front ++ rest) bytes

-- the text stands for no bytes: what stands in front of the place could go on to one that does, and with the byte there it can't, or the text ends there
abbrev pub IsBadAt : List ℕ → ℕ → Type 0
IsBadAt text place =
    (place ≤ length text) × Begins (take place text) × (place < length text → ¬ Begins (take (place + 1) text)) × IsNoHexText text
