-- Lists of attributes by one name: the set of the attributes, and what their numbers rest on there.
--     reading_of       what the attributes of a list mean
--     context_for      what the attributes of a set rest on: of another set's context no more than that
--     listed           a set that has no list of its own stands for that of an encapsulation
--     within           what lists in the values of a set rest on
--     Inner            what names a list of a set in a value of these bytes
--     told_set         the set that refusals name
--     IsInside         the list in a value: what names it, and its bytes, as the form of the value's number says
--     has_reader       a value of the number holds what has a reader of its own, and no attributes
--     OfNextHop        what names the attributes of a next hop
use Rattle.std.specs.Prelude.{◌≡◌, ◌<◌, ◌≤◌, ℕ, ◌==◌, ◌||◌, Bool, false, List, length, drop}
use Rattle.npr_base.specs.AddressFamily.{families}
use Rattle.npr_base.specs.Counts.{Counts}
use Rattle.npr_base.specs.FirstTold as FirstTold
use Rattle.npr_base.specs.Nesting.{AnyReading, has_list}
use Rattle.npr_base.specs.Numbering.{Numbering}
use Rattle.npr_base.specs.declared.attribute_set.AttributeSet.{AttributeSet}
use Rattle.npr_base.specs.declared.attribute_set.AttributeSet.TheVariants as At
use Rattle.npr_base.specs.declared.value.Form.TheVariants.{List as Listed}
use Rattle.npr_tc_actions.specs.Attribute as OfTcAction
use Rattle.npr_tc_actions.specs.declared.form.TcActionForm.{TcActionForm}
use Rattle.npr_tc_actions.specs.declared.form.TcActionForm.TheVariants.{Kept as ActionKept}
use Rattle.npr_tc_values.specs.declared.form.TcForm.TheVariants.{Kept as TcKept}
use Rattle.npr_link.specs.Governing.{Forms, Searches}
use Rattle.npr_route.specs.Governing.{Governs}
use Rattle.npr_route_values.specs.RouteType.{route_types}
use Rattle.npr_encapsulation.specs.EncapType.{encap_types}
use Rattle.npr_encapsulation.specs.declared.encap_type.RouteLwEnCapType.{RouteLwEnCapType}
use Rattle.npr_encapsulation.specs.declared.encap_type.RouteLwEnCapType.TheVariants as Tunnel
use Rattle.netlink_packet_route.specs.Readings.{no_context, reading_by}
use Rattle.netlink_packet_route.specs.declared.context.Context.{Context}
use Rattle.netlink_packet_route.specs.declared.nests.Nest.{Nest}

abbrev pub reading_of : Nest → AnyReading
reading_of n = reading_by n.set n.context

-- the header's family, the route's type, the type that governs an encapsulation, the kinds that govern a driver's data, and those of
-- traffic control
abbrev pub context_for : AttributeSet → Context → Context
context_for At.Route c = record no_context { family = c.family; route_type = c.route_type; encap_type = c.encap_type }
context_for At.NextHop c = record no_context { family = c.family; encap_type = c.encap_type }
context_for At.Neighbour c = record no_context { family = c.family }
context_for At.Link c = record no_context { family = c.family }
context_for At.Encap c = record no_context { encap_type = c.encap_type }
context_for At.LinkInfo c = record no_context { link = c.link; port = c.port }
context_for At.InfoIpTunnel c = record no_context { link = c.link }
context_for At.Tc c = record no_context { tc = c.tc }
context_for At.TcStats2 c = record no_context { tc = c.tc }
context_for At.TcAction c = record no_context { tc_action = c.tc_action }
context_for set c = no_context

-- a list of this set in a value, under the context outside
abbrev pub nest_in : AttributeSet → Context → Nest
nest_in set c = record { set = set; context = context_for set c }

-- what a set without a list of its own stands for in a value: what an encapsulation of its type holds
abbrev pub listed : AttributeSet → AttributeSet
listed At.Value = At.Encap
listed At.Mpls = At.Encap
listed At.Ip = At.Encap
listed At.Ip6 = At.Encap
listed At.Xfrm = At.Encap
listed At.Geneve = At.Encap
listed At.Seg6 = At.Encap
listed At.Seg6Local = At.Encap
listed At.Rpl = At.Encap
listed At.Ioam6 = At.Encap
listed set = set

-- a driver's list, under the kinds that a search of it finds
abbrev pub driver_nest : Forms → Nest
driver_nest forms = record { set = At.LinkInfo; context = record no_context { link = forms.0; port = forms.1 } }

-- and an action's, under the first kind in it, wherever that stands before a fault
abbrev pub action_nest : TcActionForm → Nest
action_nest form = record { set = At.TcAction; context = record no_context { tc_action = form } }

abbrev pub Inner : Context → AttributeSet → List ℕ → Nest → Type 0
Inner c At.LinkInfo bytes n = (forms : Forms) × (old : Counts) × (new : Counts) × Searches bytes forms old new × (n ≡ driver_nest forms)
Inner c At.TcAction bytes n = (form : TcActionForm) × FirstTold.Governs OfTcAction.tells ActionKept bytes form × (n ≡ action_nest form)
Inner c set bytes n = n ≡ nest_in (listed set) c

-- what lists in the values of a set rest on, of the context of the set: what an action counts is under no kind of the message
abbrev pub within : AttributeSet → Context → Context
within At.TcAction c = record c { tc = TcKept }
within set c = c

-- the set that refusals name: of an encapsulation that of its type
abbrev pub encap_set : RouteLwEnCapType → AttributeSet
encap_set Tunnel.Mpls = At.Mpls
encap_set Tunnel.Ip = At.Ip
encap_set Tunnel.Ip6 = At.Ip6
encap_set Tunnel.Xfrm = At.Xfrm
encap_set Tunnel.Seg6 = At.Seg6
encap_set Tunnel.Seg6Local = At.Seg6Local
encap_set Tunnel.Rpl = At.Rpl
encap_set Tunnel.Ioam6 = At.Ioam6
encap_set type = At.Value

abbrev pub told_set : AttributeSet → Context → AttributeSet
told_set At.Encap c = encap_set c.encap_type
told_set set c = set

-- ---- in values

-- a list of attributes stands in the value of this number, behind so many bytes: its set is the one that the row of the number says
pub record IsInside (outer : Nest) (number : ℕ) (value : List ℕ) (inner : Nest) (inside : List ℕ) : Type 0 where
  pub set : AttributeSet
  pub front : ℕ
  pub form : ((reading_of outer).reading.seeing.form_at number).1 ≡ Listed set front
  pub long : front ≤ length value
  pub named : Inner (within outer.set outer.context) set value inner
  pub is : inside ≡ drop front value

abbrev pub holds_list : Nest → ℕ → List ℕ → Bool
holds_list outer number value = has_list ((reading_of outer).reading.seeing.form_at number).1 value

-- next hops
abbrev pub holds_hops : AttributeSet → ℕ → Bool
holds_hops At.Route k = k == 9  -- RTA_MULTIPATH
holds_hops set k = false

-- routing headers and the trace of encapsulations
abbrev pub has_header : RouteLwEnCapType → ℕ → Bool
has_header Tunnel.Seg6 k = k == 1  -- SEG6_IPTUNNEL_SRH
has_header Tunnel.Ioam6 k = k == 3  -- IOAM6_IPTUNNEL_TRACE
has_header Tunnel.Rpl k = k == 1  -- RPL_IPTUNNEL_SRH
has_header Tunnel.Seg6Local k = k == 2  -- SEG6_LOCAL_SRH
has_header type k = false

-- what else is no list of attributes
abbrev pub stands_apart : AttributeSet → Context → ℕ → Bool
stands_apart At.Route c k = k == 18  -- RTA_VIA
stands_apart At.Encap c k = has_header c.encap_type k
stands_apart At.Opt c k = k == 1  -- LWTUNNEL_IP_OPTS_GENEVE
stands_apart At.InfoBond c k = k == 8 || k == 31  -- IFLA_BOND_ARP_IP_TARGET, IFLA_BOND_NS_IP6_TARGET
stands_apart set c k = false

abbrev pub has_reader : AttributeSet → Context → ℕ → Bool
has_reader set c k = stands_apart set c k || holds_hops set k

-- the attributes of a next hop: under the type that governs them, or else the one outside
abbrev pub hop_nest : Context → RouteLwEnCapType → Nest
hop_nest c type = record { set = At.Route; context = record c { encap_type = type } }

abbrev pub HopUnder : AttributeSet → Context → List ℕ → Nest → Type 0
HopUnder At.Route c attributes inner = (type : RouteLwEnCapType) × Governs c.encap_type attributes type × (inner ≡ hop_nest c type)
HopUnder set c attributes inner = inner ≡ record { set = set; context = c }

abbrev pub OfNextHop : Nest → List ℕ → Nest → Type 0
OfNextHop outer attributes inner = HopUnder outer.set outer.context attributes inner

-- ---- what a context rests on

-- what a number below this one reads as
abbrev pub IsOf : {V : Type 0} → ℕ → Numbering ℕ V → V → Type 0
IsOf most n x = (d : ℕ) × (d < most) × (x ≡ n.of d)

-- families and types are those of numbers as bytes hold them, and the set has a list, and rests on all that the context says
pub record FromBytes (n : Nest) : Type 0 where
  pub family : IsOf 256 families n.context.family
  pub route_type : IsOf 256 route_types n.context.route_type
  pub encap_type : IsOf 65536 encap_types n.context.encap_type
  pub own : listed n.set ≡ n.set
  pub no_more : n.context ≡ context_for n.set n.context
