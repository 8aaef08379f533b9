-- The type that governs a list of route attributes: RTA_ENCAP is read by the first RTA_ENCAP_TYPE beside it, wherever
-- that stands (linux/rtnetlink.h).
use Rattle.std.specs.Prelude.{ℕ, ◌==◌, List, length, Option, Some, None, if◌then◌else◌}
use Rattle.npr_base.specs.Counts.{Counts}
use Rattle.npr_base.specs.FirstTold as Told
use Rattle.npr_base.specs.Framing.{Item, number_of}
use Rattle.npr_encapsulation.specs.EncapType.{encap_type}
use Rattle.npr_encapsulation.specs.declared.encap_type.RouteLwEnCapType.{RouteLwEnCapType}

-- the type that an attribute tells: one of number 21 with a value of two bytes
abbrev pub item_type : Item → Option RouteLwEnCapType
item_type x = if number_of x.kind == 21 then if length x.value == 2 then Some (encap_type.decode x.value) else None else None

-- the type that governs bytes, and a search for it, where the outer one is `None` for the list of a message
abbrev pub Governs : RouteLwEnCapType → List ℕ → RouteLwEnCapType → Type 0
Governs outer bytes type = Told.Governs item_type outer bytes type

abbrev pub Searches : RouteLwEnCapType → List ℕ → RouteLwEnCapType → Counts → Counts → Type 0
Searches outer bytes type old new = Told.Searches item_type outer bytes type old new
