-- The text of a report: a heading, a line for each attribute, and the canonical form.
use Rattle.std.specs.Prelude.{ℕ, List, [], ◌∷◌, ◌++◌, codes, decimal, length}
use Rattle.netlink_packet_route.specs.Framing.{Item}
use Rattle.hex.specs.Hex.{encode_lower}

-- the end of a line
abbrev pub line_end : List ℕ
line_end = 10 ∷ []

-- a message's name, and how many bytes and attributes it has
abbrev pub heading_text : List ℕ → ℕ → ℕ → List ℕ
heading_text name bytes attributes =
    name ++ codes ": " ++ decimal bytes ++ codes " bytes, " ++ decimal attributes ++ codes " attributes" ++ line_end

-- an attribute's kind, and how many bytes its value has
abbrev pub line_text : ℕ → ℕ → List ℕ
line_text kind value_length = codes "kind " ++ decimal kind ++ codes " length " ++ decimal value_length ++ line_end

-- the lines of the attributes, each as it is written
abbrev pub lines_text : List Item → List ℕ
lines_text [] = []
lines_text (x ∷ items) = line_text x.kind (length x.value) ++ lines_text items

-- how many bytes the canonical form has, and then its bytes in hexadecimal
abbrev pub closing_text : List ℕ → List ℕ
closing_text canonical =
    codes "canonical " ++ decimal (length canonical) ++ codes " bytes" ++ line_end ++ encode_lower canonical ++ line_end

-- the report on a message of `bytes` bytes
abbrev pub report : List ℕ → ℕ → List Item → List ℕ → List ℕ
report name bytes attributes canonical =
    heading_text name bytes (length attributes) ++ lines_text attributes ++ closing_text canonical
