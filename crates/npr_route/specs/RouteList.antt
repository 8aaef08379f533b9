-- A list of route attributes under the family and the type of a header.
use Rattle.std.specs.Prelude.{ℕ, List}
use Rattle.npr_base.specs.declared.address_family.AddressFamily.{AddressFamily}
use Rattle.npr_base.specs.declared.refusal.DecodeError.{DecodeError}
use Rattle.npr_base.specs.Counts.{Counts}
use Rattle.npr_base.specs.Family.{list_looking}
use Rattle.npr_base.specs.Lists.{AllOf, ReadsList, FirstFault}
use Rattle.npr_route_values.specs.declared.route_type.RouteType.{RouteType}
use Rattle.npr_encapsulation.specs.declared.encap_type.RouteLwEnCapType.{RouteLwEnCapType}
use Rattle.npr_encapsulation.specs.declared.encap_type.RouteLwEnCapType.TheVariants.{None as NoEncapsulation}
use Rattle.npr_srh.specs.Seg6Mode.{ModeTable, modes}
use Rattle.npr_route.specs.Attribute.{Meaning, ReadsBy, CoherentBy, attributes_of, first_type}
use Rattle.npr_route.specs.AttributeFamily.{attributes}
use Rattle.npr_route.specs.Governing.{Governs, Searches}

-- what the header says of its list
abbrev pub Under : Type 0
Under = AddressFamily × RouteType

-- the bytes are the list, each attribute read under the type that governs them all, by a table of SEG6 modes
abbrev pub IsRouteListBy : ModeTable → Under → List ℕ → List Meaning → Type 0
IsRouteListBy by under bytes xs =
    (type : RouteLwEnCapType) × Governs NoEncapsulation bytes type × ReadsList (ReadsBy by (under.0, under.1, type)) bytes xs

-- by the table of today
abbrev pub IsRouteList : Under → List ℕ → List Meaning → Type 0
IsRouteList under bytes xs = IsRouteListBy modes under bytes xs

-- the first fault of bytes that are none
abbrev pub RouteListFault : Under → List ℕ → DecodeError → Type 0
RouteListFault under bytes e =
    (type : RouteLwEnCapType) × Governs NoEncapsulation bytes type
    × FirstFault (attributes (under.0, under.1, type)).Reads (attributes (under.0, under.1, type)).Faulty bytes e

-- the looks that reading the bytes takes: those of the search for the type, and then those at the attributes
abbrev pub RouteListTakes : Under → List ℕ → Counts → Counts → Type 0
RouteListTakes under bytes old new =
    (type : RouteLwEnCapType) × (mid : Counts) × Searches NoEncapsulation bytes type old mid
    × (list_looking (attributes (under.0, under.1, type))).Takes bytes mid new

-- what can be read: each attribute under the first type among them
abbrev pub IsCoherentListBy : ModeTable → Under → List Meaning → Type 0
IsCoherentListBy by under xs = AllOf (CoherentBy by (under.0, under.1, first_type NoEncapsulation (attributes_of xs))) xs

abbrev pub IsCoherentList : Under → List Meaning → Type 0
IsCoherentList under xs = IsCoherentListBy modes under xs
