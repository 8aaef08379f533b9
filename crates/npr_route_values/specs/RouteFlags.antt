-- Sets of flags of routes and next hops: every bit is kept.
use Rattle.std.specs.Prelude.{ℕ, Bool, true, false, List, [], ◌∷◌, Option, Some, codes}
use Rattle.std.proofs.Common.{refl}
use Rattle.npr_base.specs.Layout.{Layout, byte, le32, formed}
use Rattle.npr_base.specs.Text.{is_set, joined_by}
use Rattle.npr_base.specs.Numbering.{Numbering}
use Rattle.npr_route_values.specs.declared.flags.RouteFlags.{RouteFlags}
use Rattle.npr_route_values.specs.declared.flags.RouteNextHopFlags.{RouteNextHopFlags}

-- the set of these bits, and the bits of a set
abbrev pub route_flag_bits : Numbering ℕ RouteFlags
route_flag_bits = record { of = λ bits. record { 0 = bits }; number = λ flags. flags.0; back = λ bits. refl }

abbrev pub next_hop_flag_bits : Numbering ℕ RouteNextHopFlags
next_hop_flag_bits = record { of = λ bits. record { 0 = bits }; number = λ flags. flags.0; back = λ bits. refl }

-- how one is read and written
abbrev pub route_flags : Layout RouteFlags
route_flags = formed le32 route_flag_bits

abbrev pub next_hop_flags : Layout RouteNextHopFlags
next_hop_flags = formed byte next_hop_flag_bits

-- the names of next hops' flags in the order in which they are printed, and whether each is set
abbrev pub next_hop_names : ℕ → List (Bool × List ℕ)
next_hop_names bits =
    (is_set bits 1, codes "dead") ∷ (is_set bits 4, codes "onlink") ∷ (is_set bits 2, codes "pervasive")
    ∷ (is_set bits 8, codes "offload") ∷ (is_set bits 16, codes "linkdown") ∷ (is_set bits 32, codes "unresolved")
    ∷ (is_set bits 64, codes "trap") ∷ []

-- those that are
abbrev pub names_set : List (Bool × List ℕ) → List (List ℕ)
names_set [] = []
names_set ((true, name) ∷ names) = name ∷ names_set names
names_set ((false, name) ∷ names) = names_set names

-- the text of a set: the names that are set, one space between them
abbrev pub next_hop_flags_text : RouteNextHopFlags → Option (List ℕ)
next_hop_flags_text flags = joined_by (codes " ") Some (names_set (next_hop_names (next_hop_flag_bits.number flags)))
