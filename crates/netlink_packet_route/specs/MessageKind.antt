-- The kinds of messages: their names, and what each is made of.
use Rattle.std.specs.Prelude.{◌≡◌, ℕ, List, drop, Option, Some, None, codes}
use Rattle.std.proofs.Common.{◌≤◌, refl, sym, subst, ◌∙◌, lit≤}
use Rattle.npr_base.specs.Codec.{leading}
use Rattle.npr_base.specs.Family.{Family, Reading}
use Rattle.npr_base.specs.FirstTold.{first_told}
use Rattle.npr_base.specs.Layout.{Layout}
use Rattle.npr_base.specs.Lists.{AllOf, ReadsList}
use Rattle.npr_base.specs.Message.{Grammar, View, grammar_by, governs_by}
use Rattle.npr_base.specs.Nesting.{any_reading, IsListOf, IsFaultOf}
use Rattle.npr_base.specs.declared.address_family.AddressFamily.{AddressFamily}
use Rattle.npr_base.specs.declared.attribute_set.AttributeSet.{AttributeSet}
use Rattle.npr_base.specs.declared.attribute_set.AttributeSet.TheVariants as At
use Rattle.npr_base.specs.declared.refusal.DecodeError.{DecodeError}
use Rattle.npr_address.specs.Attribute as OfAddress
use Rattle.npr_address.specs.Header as OfAddressHeader
use Rattle.npr_link.specs.Attribute as OfLink
use Rattle.npr_link.specs.Header as OfLinkHeader
use Rattle.npr_neighbour.specs.Attribute as OfNeighbour
use Rattle.npr_neighbour.specs.Header as OfNeighbourHeader
use Rattle.npr_nexthop.specs.Attribute as OfNextHop
use Rattle.npr_nexthop.specs.Attribute.{Context as NextHopContext}
use Rattle.npr_nexthop.specs.Governing.{meaning_type}
use Rattle.npr_nexthop.specs.Message.{context_of as next_hop_context, next_hops, IsContext as IsNextHopContext, under_context as under_next_hop}
use Rattle.npr_nexthop.specs.declared.attribute.NextHopAttribute.{NextHopAttribute}
use Rattle.npr_nexthop.specs.declared.header.NextHopHeader.{NextHopHeader}
use Rattle.npr_route.specs.FlatAttribute.{Context as RouteContext}
use Rattle.npr_route.specs.Attribute.{attributes_of, first_type}
use Rattle.npr_route.specs.AttributeFamily as OfRoute
use Rattle.npr_route.specs.AttributeView as OfRouteList
use Rattle.npr_route.specs.Message.{routes, IsContext as IsRouteContext}
use Rattle.npr_route.specs.lemmas.Message.{under_context as under_route}
use Rattle.npr_route.specs.declared.attribute.RouteAttribute.{RouteAttribute}
use Rattle.npr_route.specs.declared.header.RouteHeader.{RouteHeader}
use Rattle.npr_rule.specs.Attribute as OfRule
use Rattle.npr_rule.specs.Header as OfRuleHeader
use Rattle.npr_address.specs.AddressLabelAttribute as OfAddressLabel
use Rattle.npr_address.specs.AddressLabelHeader as OfAddressLabelHeader
use Rattle.npr_neighbour.specs.NeighbourTableAttribute as OfNeighbourTable
use Rattle.npr_neighbour.specs.NeighbourTableHeader as OfNeighbourTableHeader
use Rattle.npr_namespace.specs.NetconfAttribute as OfNetconf
use Rattle.npr_namespace.specs.NetconfHeader as OfNetconfHeader
use Rattle.npr_namespace.specs.NsidAttribute as OfNsid
use Rattle.npr_namespace.specs.NsidHeader as OfNsidHeader
use Rattle.npr_address.specs.PrefixAttribute as OfPrefix
use Rattle.npr_address.specs.PrefixHeader as OfPrefixHeader
use Rattle.npr_stats.specs.Attribute as OfStats
use Rattle.npr_stats.specs.Header as OfStatsHeader
use Rattle.npr_tc.specs.ActionAttribute as OfTcAction
use Rattle.npr_tc.specs.ActionHeader as OfTcActionHeader
use Rattle.npr_tc.specs.Attribute as OfTc
use Rattle.npr_tc.specs.Message.{messages as tc_messages, IsContext as IsTcContext, under_context as under_tc}
use Rattle.npr_tc.specs.declared.attribute.TcAttribute.{TcAttribute}
use Rattle.npr_tc.specs.declared.header.TcHeader.{TcHeader}
use Rattle.npr_tc_values.specs.declared.form.TcForm.{TcForm}
use Rattle.npr_tc_values.specs.declared.form.TcForm.TheVariants.{Kept as NoData}
use Rattle.npr_encapsulation.specs.declared.encap_type.RouteLwEnCapType.TheVariants.{None as NoEncapsulation}
use Rattle.netlink_packet_route.specs.Nests.{reading_of}
use Rattle.netlink_packet_route.specs.Readings.{no_context, reading_by}
use Rattle.netlink_packet_route.specs.declared.nests.Nest.{Nest}
use Rattle.netlink_packet_route.specs.declared.kind.MessageKind.{MessageKind}
use Rattle.netlink_packet_route.specs.declared.kind.MessageKind.TheVariants.{Address, Route, Rule, Neighbour, Link, NextHop, Nsid, Netconf, AddressLabel}
use Rattle.netlink_packet_route.specs.declared.kind.MessageKind.TheVariants.{NeighbourTable, Prefix, Tc, TcAction, Stats}
use Rattle.netlink_packet_route.specs.declared.message_type.MessageType.{MessageType}
use Rattle.netlink_packet_route.specs.declared.message_type.MessageType.TheVariants as Types
use Rattle.netlink_packet_route.specs.declared.message_type.Subject.{Subject}
use Rattle.netlink_packet_route.specs.declared.message_type.Subject.TheVariants as On

abbrev pub kind_name : MessageKind → List ℕ
kind_name Address = codes "address"
kind_name Route = codes "route"
kind_name Rule = codes "rule"
kind_name Neighbour = codes "neighbour"
kind_name Link = codes "link"
kind_name NextHop = codes "nexthop"
kind_name Nsid = codes "nsid"
kind_name Netconf = codes "netconf"
kind_name AddressLabel = codes "address-label"
kind_name NeighbourTable = codes "neighbour-table"
kind_name Prefix = codes "prefix"
kind_name Tc = codes "tc"
kind_name TcAction = codes "tc-action"
kind_name Stats = codes "stats"

-- what a kind of message is made of: its header, its attributes, and how they are read and written; what governs the attributes, and
-- what names their list, which means what the message does; and how those of a message are read that its own words govern
pub record Form : Type 1 where
  pub Header : Type 0
  pub Attribute : Type 0
  pub Context : Type 0
  pub grammar : Grammar Header Attribute
  pub family : Family Attribute Context
  pub governs : Header → List ℕ → Context → Type 0
  pub one : (h : Header) (bytes : List ℕ) (c d : Context) → governs h bytes c → governs h bytes d → d ≡ c
  pub nest : Context → Nest
  pub named : (c : Context) → reading_of (nest c) ≡ any_reading (family.reading c)
  pub reads : (h : Header) (bytes : List ℕ) (c : Context) → governs h bytes c → IsListOf (any_reading (family.reading c)) bytes
      → (ms : List grammar.Meaning) × grammar.body.Reads h bytes ms
  pub faulty : (h : Header) (bytes : List ℕ) (c : Context) (e : DecodeError) → governs h bytes c → IsFaultOf (any_reading (family.reading c)) bytes e
      → grammar.body.Faulty h bytes e
  pub own : View grammar → Reading grammar.writing
  pub coherent : (m : View grammar) → grammar.body.Coherent m.header m.attributes → AllOf (own m).Coherent m.attributes
  pub some : 4 ≤ grammar.layout.size

-- where the header tells the context
abbrev pub form_by : {H A C : Type 0} (f : Family A C) (layout : Layout H) (standard : H) (context_of : H → C) (nest : C → Nest)
    → ((c : C) → reading_of (nest c) ≡ any_reading (f.reading c)) → 4 ≤ layout.size → Form
form_by {H} {A} {C} f layout standard context_of nest named some = record {
  Header = H;
  Attribute = A;
  Context = C;
  grammar = grammar_by f layout standard context_of;
  family = f;
  governs = governs_by context_of;
  one = λ h bytes c d p q. q ∙ sym p;
  nest = nest;
  named = named;
  reads = λ h bytes c is list. subst (λ (d : C). IsListOf (any_reading (f.reading d)) bytes) is list;
  faulty = λ h bytes c e is bad. subst (λ (d : C). IsFaultOf (any_reading (f.reading d)) bytes e) is bad;
  own = λ m. f.reading (context_of m.header);
  coherent = λ m all. all;
  some = some;
}

-- and where nothing does
abbrev pub alone : {H A : Type 0} (f : Family A (Unit {0})) (layout : Layout H) (standard : H) (set : AttributeSet)
    → reading_by set no_context ≡ any_reading (f.reading tt) → 4 ≤ layout.size → Form
alone f layout standard set named some = form_by f layout standard (λ h. tt) (λ c. record { set = set; context = no_context }) (λ c. named) some

abbrev pub of_family : AttributeSet → AddressFamily → Nest
of_family set family = record { set = set; context = record no_context { family = family } }

abbrev pub of_route : RouteContext → Nest
of_route c = record { set = At.Route; context = record no_context { family = c.0; route_type = c.1; encap_type = c.2 } }

abbrev pub of_next_hop : NextHopContext → Nest
of_next_hop c = record { set = At.NextHop; context = record no_context { family = c.0; encap_type = c.1 } }

abbrev pub of_tc : TcForm → Nest
of_tc form = record { set = At.Tc; context = record no_context { tc = form } }

abbrev pub form_of : MessageKind → Form
form_of Address = alone OfAddress.family OfAddressHeader.header OfAddressHeader.default_header At.Address refl (lit≤ tt)
form_of Rule = alone OfRule.family OfRuleHeader.header OfRuleHeader.default_header At.Rule refl (lit≤ tt)
form_of Neighbour =
    form_by OfNeighbour.family OfNeighbourHeader.header OfNeighbourHeader.default_header (λ h. h.family) (of_family At.Neighbour) (λ c. refl) (lit≤ tt)
form_of Link = form_by OfLink.family OfLinkHeader.header OfLinkHeader.default_header (λ h. h.interface_family) (of_family At.Link) (λ c. refl) (lit≤ tt)
form_of Nsid = alone OfNsid.family OfNsidHeader.header OfNsidHeader.default_header At.Nsid refl (lit≤ tt)
form_of Netconf = alone OfNetconf.family OfNetconfHeader.header OfNetconfHeader.default_header At.Netconf refl (lit≤ tt)
form_of AddressLabel = alone OfAddressLabel.family OfAddressLabelHeader.header OfAddressLabelHeader.default_header At.AddressLabel refl (lit≤ tt)
form_of NeighbourTable =
    alone OfNeighbourTable.family OfNeighbourTableHeader.header OfNeighbourTableHeader.default_header At.NeighbourTable refl (lit≤ tt)
form_of Prefix = alone OfPrefix.family OfPrefixHeader.header OfPrefixHeader.default_header At.Prefix refl (lit≤ tt)
form_of TcAction = alone OfTcAction.family OfTcActionHeader.header OfTcActionHeader.default_header At.TcActionMessage refl (lit≤ tt)
form_of Stats = alone OfStats.family OfStatsHeader.header OfStatsHeader.default_header At.Stats refl (lit≤ tt)
form_of Route = record {
  Header = RouteHeader;
  Attribute = RouteAttribute;
  Context = RouteContext;
  grammar = routes;
  family = OfRouteList.family;
  governs = IsRouteContext;
  one = λ h bytes c d p q. (under_route h bytes c p).alone d q;
  nest = of_route;
  named = λ c. refl;
  reads = λ h bytes c (type, governs, is) (ms, list).
      (ms, (type, governs, subst (λ (d : RouteContext). ReadsList (OfRouteList.family.reading d).Reads bytes ms) is list));
  faulty = λ h bytes c e (type, governs, is) bad.
      (type, governs, subst (λ (d : RouteContext). IsFaultOf (any_reading (OfRouteList.family.reading d)) bytes e) is bad);
  own = λ m.
      let h = m.header in
      OfRoute.attributes (h.address_family, h.kind, first_type NoEncapsulation (attributes_of m.attributes));
  coherent = λ m all. all;
  some = lit≤ tt;
}
form_of NextHop = record {
  Header = NextHopHeader;
  Attribute = NextHopAttribute;
  Context = NextHopContext;
  grammar = next_hops;
  family = OfNextHop.family;
  governs = IsNextHopContext;
  one = λ h bytes c d p q. (under_next_hop h bytes c p).alone d q;
  nest = of_next_hop;
  named = λ c. refl;
  reads = λ h bytes c (type, governs, is) (ms, list).
      (ms, (type, governs, subst (λ (d : NextHopContext). ReadsList (OfNextHop.family.reading d).Reads bytes ms) is list));
  faulty = λ h bytes c e (type, governs, is) bad.
      (type, governs, subst (λ (d : NextHopContext). IsFaultOf (any_reading (OfNextHop.family.reading d)) bytes e) is bad);
  own = λ m. OfNextHop.attributes (next_hop_context m.header (first_told meaning_type NoEncapsulation m.attributes));
  coherent = λ m all. all;
  some = lit≤ tt;
}
form_of Tc = record {
  Header = TcHeader;
  Attribute = TcAttribute;
  Context = TcForm;
  grammar = tc_messages;
  family = OfTc.family;
  governs = IsTcContext;
  one = λ h bytes c d p q. (under_tc h bytes c p).alone d q;
  nest = of_tc;
  named = λ c. refl;
  reads = λ h bytes c (form, governs, is) (ms, list).
      (ms, (form, governs, subst (λ (d : TcForm). ReadsList (OfTc.family.reading d).Reads bytes ms) is list));
  faulty = λ h bytes c e (form, governs, is) bad.
      (form, governs, subst (λ (d : TcForm). IsFaultOf (any_reading (OfTc.family.reading d)) bytes e) is bad);
  own = λ m. OfTc.attributes (first_told OfTc.told NoData m.attributes);
  coherent = λ m all. all;
  some = lit≤ tt;
}

-- in bytes
abbrev pub header_size : MessageKind → ℕ
header_size kind = (form_of kind).grammar.layout.size

-- a header stands in front, and what governs the attributes behind it names their list
pub record BeginsBy (form : Form) (bytes : List ℕ) (nest : Nest) (rest : List ℕ) : Type 0 where
  pub header : form.Header
  pub reads : (leading form.grammar.layout).Reads bytes header
  pub is : rest ≡ drop form.grammar.layout.size bytes
  pub context : form.Context
  pub governs : form.governs header rest context
  pub names : nest ≡ form.nest context

pub begun : (form : Form) (bytes : List ℕ) (h : form.Header) (rest : List ℕ) (c : form.Context) → (leading form.grammar.layout).Reads bytes h
    → rest ≡ drop form.grammar.layout.size bytes → form.governs h rest c → BeginsBy form bytes (form.nest c) rest
begun form bytes h rest c reads is governs =
    record { header = h; reads = reads; is = is; context = c; governs = governs; names = refl }

abbrev pub Begins : MessageKind → List ℕ → Nest → List ℕ → Type 0
Begins kind = BeginsBy (form_of kind)

-- a message of a kind, without where it lies in memory
abbrev pub MessageOf : MessageKind → Type 0
MessageOf kind = View (form_of kind).grammar

-- the kind of the messages on this
abbrev pub kind_of : Subject → MessageKind
kind_of On.Link = Link
kind_of On.Address = Address
kind_of On.Route = Route
kind_of On.Neighbour = Neighbour
kind_of On.Rule = Rule
kind_of On.AddressLabel = AddressLabel
kind_of On.Netconf = Netconf
kind_of On.Nsid = Nsid
kind_of On.NextHop = NextHop
kind_of On.LinkProp = Link
kind_of On.NextHopBucket = NextHop
kind_of On.QueueDiscipline = Tc
kind_of On.TrafficClass = Tc
kind_of On.TrafficFilter = Tc
kind_of On.TrafficChain = Tc
kind_of On.TrafficAction = TcAction

-- the kind of the messages of a type, where the library has one
abbrev pub kind_of_type : MessageType → Option MessageKind
kind_of_type (Types.Of subject action) = Some (kind_of subject)
kind_of_type Types.SetLink = Some Link
kind_of_type Types.NewPrefix = Some Prefix
kind_of_type Types.NewStats = Some Stats
kind_of_type Types.NewNeighbourTable = Some NeighbourTable
kind_of_type Types.GetNeighbourTable = Some NeighbourTable
kind_of_type Types.SetNeighbourTable = Some NeighbourTable
kind_of_type Types.Unknown = None
