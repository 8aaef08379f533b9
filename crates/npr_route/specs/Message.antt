-- A route message: its header, and attributes to the end, whose meaning rests on the header and on the type of
-- encapsulation among them (linux/rtnetlink.h).
use Rattle.std.specs.Prelude.{ℕ, List, map}
use Rattle.npr_base.specs.Message.{View, Body, Grammar, grammar_of, IsMessageOf, IsCoherentOf}
use Rattle.npr_srh.specs.Seg6Mode.{ModeTable}
use Rattle.npr_route.specs.Attribute.{normalized, attributes_depth, attributes_of}
use Rattle.npr_route.specs.AttributeFamily.{writing}
use Rattle.npr_route.specs.AttributeView.{family}
use Rattle.npr_route.specs.Header.{header, default_header}
use Rattle.npr_route.specs.RouteList.{Under, IsRouteList, IsRouteListBy, RouteListFault, IsCoherentList, IsCoherentListBy}
use Rattle.npr_route.specs.lemmas.RouteList.{route-list-one, route-list-sound, route-list-coherent, route-list-back, route-list-grows, route-list-deep}
use Rattle.npr_route.specs.lemmas.RouteList.{route-list-bounded, route-list-saw}
use Rattle.npr_route.specs.RouteListLooking.{route_list_looking}
use Rattle.npr_route.specs.declared.header.RouteHeader.{RouteHeader}
use Rattle.npr_route.specs.declared.attribute.RouteAttribute.{RouteAttribute}
use Rattle.std.proofs.Common.{◌≡◌, ℕ, List, map}
use Rattle.npr_base.specs.Counts.{Counts}
use Rattle.npr_encapsulation.specs.declared.encap_type.RouteLwEnCapType.{RouteLwEnCapType}
use Rattle.npr_encapsulation.specs.declared.encap_type.RouteLwEnCapType.TheVariants.{None as NoEncapsulation}
use Rattle.npr_route.specs.FlatAttribute.{Context}
use Rattle.npr_route.specs.Governing.{Governs, Searches}

-- what the header says of its list
abbrev pub under : RouteHeader → Under
under h = (h.address_family, h.kind)

abbrev pub body : Body RouteHeader writing
body = record {
  Reads = λ h bytes xs. IsRouteList (under h) bytes xs;
  Faulty = λ h bytes e. RouteListFault (under h) bytes e;
  looks = λ h. route_list_looking (under h);
  Coherent = λ h xs. IsCoherentList (under h) xs;
  one_reading = λ h bytes xs ys p q. route-list-one (under h) bytes xs ys p q;
  no_fault = λ h bytes xs e p q. route-list-sound (under h) bytes xs e p q;
  reads_coherent = λ h bytes xs is p. route-list-coherent (under h) bytes xs is p;
  reads_back = λ h xs all fits. route-list-back (under h) xs all fits;
  grows = λ h bytes xs is p. route-list-grows (under h) bytes xs is p;
  bounded = λ h bytes old new t. route-list-bounded (under h) bytes old new t;
  saw = λ h bytes xs old new p t. route-list-saw (under h) bytes xs old new p t;
  depth = λ xs. attributes_depth (attributes_of xs);
  deep = λ h bytes xs p. route-list-deep (under h) bytes xs p;
}

-- what it is made of
abbrev pub routes : Grammar RouteHeader RouteAttribute
routes = grammar_of family header default_header body

-- the message with each SEG6 header in it brought up to the table of modes of today
abbrev pub normalized_route : View routes → View routes
normalized_route m = record { header = m.header; attributes = map normalized m.attributes }

-- the bytes are the message, and the message can be read, by a table of SEG6 modes
unfoldable pub IsRouteMessageBy : ModeTable → List ℕ → View routes → Type 0
IsRouteMessageBy by bytes m = IsMessageOf header (λ h. IsRouteListBy by (under h)) bytes m

unfoldable pub IsCoherentRouteBy : ModeTable → View routes → Type 0
IsCoherentRouteBy by m = IsCoherentOf header (λ h. IsCoherentListBy by (under h)) m

-- the context of a list: what the header says, and the type that governs
abbrev pub IsContext : RouteHeader → List ℕ → Context → Type 0
IsContext h bytes context = (type : RouteLwEnCapType) × Governs NoEncapsulation bytes type × (context ≡ (h.address_family, h.kind, type))

abbrev pub SearchesIt : RouteHeader → List ℕ → Context → Counts → Counts → Type 0
SearchesIt h bytes context = Searches NoEncapsulation bytes context.2
