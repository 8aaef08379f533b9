-- Words of printed texts: parts with a separator between them, bytes and numbers in hexadecimal, and flags that are set.
use Rattle.std.specs.Prelude.{ℕ, Bool, Option, Some, false, ◌/◌, ◌%◌, ◌-◌, ◌==◌, bit_and, List, [], ◌∷◌, ◌++◌, length, replicate, flat_map, codes, decimal}
use Rattle.std.specs.Fmt.{digits, digit_glyph, option_append, debug_list, ◌++?◌}
use Rattle.npr_base.specs.Framing.{Item}

-- each part, with the separator before it; no text is known where that of a part is not
abbrev pub each_after : {A : Type 0} → List ℕ → (A → Option (List ℕ)) → List A → Option (List ℕ)
each_after separator text [] = Some []
each_after separator text (x ∷ xs) = option_append (option_append (Some separator) (text x)) (each_after separator text xs)

-- the parts, with the separator between them
abbrev pub joined_by : {A : Type 0} → List ℕ → (A → Option (List ℕ)) → List A → Option (List ℕ)
joined_by separator text [] = Some []
joined_by separator text (x ∷ xs) = option_append (text x) (each_after separator text xs)

-- two lower-case digits a byte
abbrev pub hex_of_byte : ℕ → List ℕ
hex_of_byte b = digit_glyph false (b / 16) ∷ digit_glyph false (b % 16) ∷ []

abbrev pub hex_text : List ℕ → List ℕ
hex_text bytes = flat_map hex_of_byte bytes

-- the lower-case digits of a number, behind zeros where there are fewer than so many
abbrev pub padded_hex_text : ℕ → ℕ → List ℕ
padded_hex_text width n = replicate (width - length (digits 16 false n)) 48 ++ digits 16 false n

-- whether a set of flags holds one, of one bit or of several
abbrev pub is_set : ℕ → ℕ → Bool
is_set bits flag = bit_and bits flag == flag

-- a number that has no name
abbrev pub other_text : ℕ → List ℕ
other_text d = codes "other(" ++ decimal d ++ codes ")"

-- an attribute that is kept as it stands: its kind with both flags, and the bytes of its value, as numbers
abbrev pub nla_text : Item → Option (List ℕ)
nla_text x = Some (codes "DefaultNla { kind: " ++ decimal x.kind ++ codes ", value: ") ++? debug_list (λ b. Some (decimal b)) x.value ++? Some (codes " }")
