-- The list that a nest names, and next hops in it.
--     IsListAt, ListFaultAt     the bytes are a list of this name, and its first fault
--     AreHopsAt, HopsWrongAt    the bytes are next hops in such a list, and their first fault; no set but a route's has any
use Rattle.std.specs.Prelude.{ℕ, List}
use Rattle.npr_base.specs.declared.refusal.DecodeError.{DecodeError}
use Rattle.npr_base.specs.Framing.{Item}
use Rattle.npr_route.specs.Attribute.{Meaning, Hops, Reads, AreHops}
use Rattle.npr_route.specs.Attribute.{HopsWrong}
use Rattle.npr_route.specs.FlatAttribute.{Context}
use Rattle.npr_base.specs.declared.attribute_set.AttributeSet.{AttributeSet}
use Rattle.npr_base.specs.declared.attribute_set.AttributeSet.TheVariants.{Route}
use Rattle.npr_base.specs.Nesting.{IsListOf, IsFaultOf}
use Rattle.netlink_packet_route.specs.Nests.{reading_of}
use Rattle.netlink_packet_route.specs.declared.context.Context.{Context as Outside}
use Rattle.netlink_packet_route.specs.declared.nests.Nest.{Nest}

abbrev pub IsAttributeAt : Nest → Item → Type 0
IsAttributeAt nest x = (m : (reading_of nest).Meaning) × (reading_of nest).reading.Reads x m

abbrev pub IsListAt : Nest → List ℕ → Type 0
IsListAt nest bytes = IsListOf (reading_of nest) bytes

abbrev pub ListFaultAt : Nest → List ℕ → DecodeError → Type 0
ListFaultAt nest bytes e = IsFaultOf (reading_of nest) bytes e

-- of a route
abbrev pub of_route : Outside → Context
of_route c = (c.family, c.route_type, c.encap_type)

abbrev pub HopsOf : AttributeSet → Outside → List ℕ → Type 0
HopsOf Route c bytes = (hs : Hops) × AreHops (of_route c) bytes hs
HopsOf set c bytes = Unit {0}

abbrev pub HopsWrongOf : AttributeSet → Outside → List ℕ → DecodeError → Type 0
HopsWrongOf Route c bytes e = HopsWrong (of_route c) bytes e
HopsWrongOf set c bytes e = Unit {0}

abbrev pub AreHopsAt : Nest → List ℕ → Type 0
AreHopsAt nest bytes = HopsOf nest.set nest.context bytes

abbrev pub HopsWrongAt : Nest → List ℕ → DecodeError → Type 0
HopsWrongAt nest bytes e = HopsWrongOf nest.set nest.context bytes e
