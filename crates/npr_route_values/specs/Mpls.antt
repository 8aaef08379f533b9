-- Entries of a label stack (RFC 3032, section 2.1): a number of 32 bits.
use Rattle.std.specs.Prelude.{ℕ, ◌^◌, ◌<◌}
use Rattle.npr_base.specs.Bits.{Bits, bits, flag, ◌above◌, lowest}
use Rattle.npr_route_values.specs.contracts.mpls.MplsLabel.{struct}
use Rattle.npr_route_values.specs.declared.mpls.MplsLabel.{MplsLabel}
use denote.Struct.Values.{Values}

-- from the highest bit
abbrev pub fields_of : MplsLabel → Values struct.parts
fields_of x = (x.label, (x.traffic_class, (x.bottom_of_stack, (x.ttl, tt))))

abbrev pub entry : Bits (Values struct.parts)
entry = bits 20 above bits 3 above flag above lowest (bits 8)

-- the entry that a number reads as
abbrev pub label_of : ℕ → MplsLabel
label_of d = struct.make (entry.of d) tt

-- the number that an entry is written as: each field modulo its room
abbrev pub label_number : MplsLabel → ℕ
label_number x = entry.number (struct.as_values x)

-- the label and the class have room
pub record IsInRange (x : MplsLabel) : Type 0 where
  pub label : x.label < 2 ^ 20
  pub traffic_class : x.traffic_class < 8
