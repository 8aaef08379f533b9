-- The messages of rtnetlink by their types (linux/rtnetlink.h, RTM_*): those of the kinds that the library reads, and any other.
use Rattle.std.specs.Prelude.{◌≡◌, ℕ, ◌<◌, ◌==◌, Bool, false, List, [], length, drop, Option, Some, None}
use Rattle.std.proofs.Common.{refl, sym, ap, subst, ◌∙◌}
use Rattle.npr_base.specs.declared.refusal.DecodeError.{DecodeError}
use Rattle.npr_base.specs.declared.refusal.EmitError.{EmitError}
use Rattle.npr_base.specs.Framing.{IsBytes, Item, Front}
use Rattle.npr_base.proofs.Messages.{message-one, message-sound, message-coherent, message-back}
use Rattle.npr_base.specs.Message.{IsMessage, MessageFault, IsCoherent, canonical_bytes, message_unfit, view}
use Rattle.npr_address.specs.Message.{addresses}
use Rattle.npr_link.specs.Message.{links}
use Rattle.npr_neighbour.specs.Message.{neighbours}
use Rattle.npr_nexthop.specs.Message.{next_hops}
use Rattle.npr_route.specs.Message.{routes}
use Rattle.npr_rule.specs.Message.{rules}
use Rattle.npr_address.specs.AddressLabelMessage.{address_labels}
use Rattle.npr_neighbour.specs.NeighbourTableMessage.{neighbour_tables}
use Rattle.npr_namespace.specs.NetconfMessage.{netconfs}
use Rattle.npr_namespace.specs.NsidMessage.{nsids}
use Rattle.npr_address.specs.PrefixMessage.{prefixes}
use Rattle.npr_stats.specs.Message.{stats_messages}
use Rattle.npr_tc.specs.ActionMessage.{messages as action_messages}
use Rattle.npr_tc.specs.Message.{messages as tc_messages}
use Rattle.netlink_packet_core.specs.Protocol.{Protocol}
use Rattle.netlink_packet_route.specs.MessageKind.{form_of, kind_of, kind_of_type, MessageOf}
use Rattle.netlink_packet_route.specs.MessageTypes.{HasNumber, Under, number-back, number-is, type-number, type_number, type_of}
use Rattle.netlink_packet_route.specs.declared.kind.MessageKind.{MessageKind}
use Rattle.netlink_packet_route.specs.declared.kind.MessageKind.TheVariants as Kind
use Rattle.netlink_packet_route.specs.declared.message.OtherMessage.{OtherMessage}
use Rattle.netlink_packet_route.specs.declared.message.RouteNetlinkMessage.{RouteNetlinkMessage}
use Rattle.netlink_packet_route.specs.declared.message.RouteNetlinkMessage.TheVariants as Message
use Rattle.netlink_packet_route.specs.declared.message_type.Action.{Action}
use Rattle.netlink_packet_route.specs.declared.message_type.Action.TheVariants.{New, Del, Get}
use Rattle.netlink_packet_route.specs.declared.message_type.MessageType.{MessageType}
use Rattle.netlink_packet_route.specs.declared.message_type.MessageType.TheVariants.{Of, SetLink, NewPrefix, NewStats, Unknown}
use Rattle.netlink_packet_route.specs.declared.message_type.MessageType.TheVariants.{NewNeighbourTable, GetNeighbourTable, SetNeighbourTable}
use Rattle.netlink_packet_route.specs.declared.message_type.Subject.{Subject}
use Rattle.netlink_packet_route.specs.declared.message_type.Subject.TheVariants.{Link, Address, Route, Neighbour, Rule, AddressLabel, Netconf, Nsid}
use Rattle.netlink_packet_route.specs.declared.message_type.Subject.TheVariants.{NextHop, LinkProp, NextHopBucket}
use Rattle.netlink_packet_route.specs.declared.message_type.Subject.TheVariants.{QueueDiscipline, TrafficClass, TrafficFilter, TrafficChain}
use Rattle.netlink_packet_route.specs.declared.message_type.Subject.TheVariants.{TrafficAction}

-- what it is, without where it lies in memory: a type and a message of its kind, or another type and its bytes
pub data Meaning : Type 0 where
  message : (type : MessageType) → Under (kind_of_type type) → Meaning
  other : ℕ → List ℕ → Meaning

abbrev pub link : Action → MessageOf Kind.Link → Meaning
link a m = message (Of Link a) m

abbrev pub address : Action → MessageOf Kind.Address → Meaning
address a m = message (Of Address a) m

abbrev pub route : Action → MessageOf Kind.Route → Meaning
route a m = message (Of Route a) m

abbrev pub neighbour : Action → MessageOf Kind.Neighbour → Meaning
neighbour a m = message (Of Neighbour a) m

abbrev pub rule : Action → MessageOf Kind.Rule → Meaning
rule a m = message (Of Rule a) m

abbrev pub address_label : Action → MessageOf Kind.AddressLabel → Meaning
address_label a m = message (Of AddressLabel a) m

abbrev pub netconf : Action → MessageOf Kind.Netconf → Meaning
netconf a m = message (Of Netconf a) m

abbrev pub nsid : Action → MessageOf Kind.Nsid → Meaning
nsid a m = message (Of Nsid a) m

abbrev pub next_hop : Action → MessageOf Kind.NextHop → Meaning
next_hop a m = message (Of NextHop a) m

abbrev pub link_prop : Action → MessageOf Kind.Link → Meaning
link_prop a m = message (Of LinkProp a) m

abbrev pub next_hop_bucket : Action → MessageOf Kind.NextHop → Meaning
next_hop_bucket a m = message (Of NextHopBucket a) m

abbrev pub queue_discipline : Action → MessageOf Kind.Tc → Meaning
queue_discipline a m = message (Of QueueDiscipline a) m

abbrev pub traffic_class : Action → MessageOf Kind.Tc → Meaning
traffic_class a m = message (Of TrafficClass a) m

abbrev pub traffic_filter : Action → MessageOf Kind.Tc → Meaning
traffic_filter a m = message (Of TrafficFilter a) m

abbrev pub traffic_chain : Action → MessageOf Kind.Tc → Meaning
traffic_chain a m = message (Of TrafficChain a) m

abbrev pub traffic_action : Action → MessageOf Kind.TcAction → Meaning
traffic_action a m = message (Of TrafficAction a) m

-- another type, and its bytes
abbrev pub other_of : OtherMessage → ℕ × List ℕ
other_of m = (m.message_type, m.payload.items)

abbrev pub meaning_of : RouteNetlinkMessage → Meaning
meaning_of (Message.NewLink m) = message (Of Link New) (view links m)
meaning_of (Message.DelLink m) = message (Of Link Del) (view links m)
meaning_of (Message.GetLink m) = message (Of Link Get) (view links m)
meaning_of (Message.SetLink m) = message SetLink (view links m)
meaning_of (Message.NewAddress m) = message (Of Address New) (view addresses m)
meaning_of (Message.DelAddress m) = message (Of Address Del) (view addresses m)
meaning_of (Message.GetAddress m) = message (Of Address Get) (view addresses m)
meaning_of (Message.NewRoute m) = message (Of Route New) (view routes m)
meaning_of (Message.DelRoute m) = message (Of Route Del) (view routes m)
meaning_of (Message.GetRoute m) = message (Of Route Get) (view routes m)
meaning_of (Message.NewNeighbour m) = message (Of Neighbour New) (view neighbours m)
meaning_of (Message.DelNeighbour m) = message (Of Neighbour Del) (view neighbours m)
meaning_of (Message.GetNeighbour m) = message (Of Neighbour Get) (view neighbours m)
meaning_of (Message.NewRule m) = message (Of Rule New) (view rules m)
meaning_of (Message.DelRule m) = message (Of Rule Del) (view rules m)
meaning_of (Message.GetRule m) = message (Of Rule Get) (view rules m)
meaning_of (Message.NewQueueDiscipline m) = message (Of QueueDiscipline New) (view tc_messages m)
meaning_of (Message.DelQueueDiscipline m) = message (Of QueueDiscipline Del) (view tc_messages m)
meaning_of (Message.GetQueueDiscipline m) = message (Of QueueDiscipline Get) (view tc_messages m)
meaning_of (Message.NewTrafficClass m) = message (Of TrafficClass New) (view tc_messages m)
meaning_of (Message.DelTrafficClass m) = message (Of TrafficClass Del) (view tc_messages m)
meaning_of (Message.GetTrafficClass m) = message (Of TrafficClass Get) (view tc_messages m)
meaning_of (Message.NewTrafficFilter m) = message (Of TrafficFilter New) (view tc_messages m)
meaning_of (Message.DelTrafficFilter m) = message (Of TrafficFilter Del) (view tc_messages m)
meaning_of (Message.GetTrafficFilter m) = message (Of TrafficFilter Get) (view tc_messages m)
meaning_of (Message.NewTrafficAction m) = message (Of TrafficAction New) (view action_messages m)
meaning_of (Message.DelTrafficAction m) = message (Of TrafficAction Del) (view action_messages m)
meaning_of (Message.GetTrafficAction m) = message (Of TrafficAction Get) (view action_messages m)
meaning_of (Message.NewPrefix m) = message NewPrefix (view prefixes m)
meaning_of (Message.NewStats m) = message NewStats (view stats_messages m)
meaning_of (Message.NewNeighbourTable m) = message NewNeighbourTable (view neighbour_tables m)
meaning_of (Message.GetNeighbourTable m) = message GetNeighbourTable (view neighbour_tables m)
meaning_of (Message.SetNeighbourTable m) = message SetNeighbourTable (view neighbour_tables m)
meaning_of (Message.NewAddressLabel m) = message (Of AddressLabel New) (view address_labels m)
meaning_of (Message.DelAddressLabel m) = message (Of AddressLabel Del) (view address_labels m)
meaning_of (Message.GetAddressLabel m) = message (Of AddressLabel Get) (view address_labels m)
meaning_of (Message.NewNetconf m) = message (Of Netconf New) (view netconfs m)
meaning_of (Message.DelNetconf m) = message (Of Netconf Del) (view netconfs m)
meaning_of (Message.GetNetconf m) = message (Of Netconf Get) (view netconfs m)
meaning_of (Message.NewNsId m) = message (Of Nsid New) (view nsids m)
meaning_of (Message.DelNsId m) = message (Of Nsid Del) (view nsids m)
meaning_of (Message.GetNsId m) = message (Of Nsid Get) (view nsids m)
meaning_of (Message.NewTrafficChain m) = message (Of TrafficChain New) (view tc_messages m)
meaning_of (Message.DelTrafficChain m) = message (Of TrafficChain Del) (view tc_messages m)
meaning_of (Message.GetTrafficChain m) = message (Of TrafficChain Get) (view tc_messages m)
meaning_of (Message.NewNextHop m) = message (Of NextHop New) (view next_hops m)
meaning_of (Message.DelNextHop m) = message (Of NextHop Del) (view next_hops m)
meaning_of (Message.GetNextHop m) = message (Of NextHop Get) (view next_hops m)
meaning_of (Message.NewLinkProp m) = message (Of LinkProp New) (view links m)
meaning_of (Message.DelLinkProp m) = message (Of LinkProp Del) (view links m)
meaning_of (Message.GetLinkProp m) = message (Of LinkProp Get) (view links m)
meaning_of (Message.NewNextHopBucket m) = message (Of NextHopBucket New) (view next_hops m)
meaning_of (Message.DelNextHopBucket m) = message (Of NextHopBucket Del) (view next_hops m)
meaning_of (Message.GetNextHopBucket m) = message (Of NextHopBucket Get) (view next_hops m)
meaning_of (Message.Other m) = other m.message_type m.payload.items

abbrev pub number : Meaning → ℕ
number (message type m) = type_number type
number (other type bytes) = type

-- it is read, under the type of this number
abbrev pub has_number : ℕ → Meaning → Bool
has_number n (message type m) = type_number type == n
has_number n (other type bytes) = false

-- it is a message of this type
abbrev pub is_of : MessageType → Meaning → Bool
is_of type x = has_number (type_number type) x

abbrev bytes_under : (k : Option MessageKind) → Under k → List ℕ
bytes_under (Some kind) m = canonical_bytes (form_of kind).grammar m
bytes_under None m = []

abbrev pub encode : Meaning → List ℕ
encode (message type m) = bytes_under (kind_of_type type) m
encode (other type bytes) = bytes

abbrev unfit_under : (k : Option MessageKind) → Under k → Option EmitError
unfit_under (Some kind) m = message_unfit (form_of kind).grammar m
unfit_under None m = None

abbrev pub meaning_unfit : Meaning → Option EmitError
meaning_unfit (message type m) = unfit_under (kind_of_type type) m
meaning_unfit (other type bytes) = None

-- the bytes are a message on this, which does this
abbrev pub IsMessageOn : Subject → Action → List ℕ → Meaning → Type 0
IsMessageOn subject a bytes x =
    (m : MessageOf (kind_of subject)) × IsMessage (form_of (kind_of subject)).grammar bytes m × (x ≡ message (Of subject a) m)

abbrev ReadsBy : (k : Option MessageKind) → (Under k → Meaning) → ℕ → List ℕ → Meaning → Type 0
ReadsBy (Some kind) of type bytes x = (m : MessageOf kind) × IsMessage (form_of kind).grammar bytes m × (x ≡ of m)
ReadsBy None of type bytes x = x ≡ other type bytes

-- what the bytes are under this type
abbrev pub ReadsUnder : MessageType → ℕ → List ℕ → Meaning → Type 0
ReadsUnder t type bytes x = ReadsBy (kind_of_type t) (λ m. message t m) type bytes x

abbrev FaultBy : Option MessageKind → List ℕ → DecodeError → Type 0
FaultBy (Some kind) bytes e = MessageFault (form_of kind).grammar bytes e
FaultBy None bytes e = ⊥

-- why they are no message; bytes under another type are always one
abbrev pub FaultUnder : MessageType → List ℕ → DecodeError → Type 0
FaultUnder t bytes e = FaultBy (kind_of_type t) bytes e

-- a first attribute stands behind the header
abbrev pub HasFirst : MessageKind → List ℕ → Type 0
HasFirst kind bytes = (x : Item) × (rest : List ℕ) × Front (drop (form_of kind).grammar.layout.size bytes) x rest

abbrev GrowsBy : Option MessageKind → List ℕ → Type 0
GrowsBy (Some kind) bytes = HasFirst kind bytes
GrowsBy None bytes = 0 < length bytes

-- bytes that may want memory: those of another type are kept
abbrev pub GrowsUnder : MessageType → List ℕ → Type 0
GrowsUnder t bytes = GrowsBy (kind_of_type t) bytes

abbrev CopyBy : (k : Option MessageKind) → Under k → Type 0
CopyBy (Some kind) m = 0 < length m.attributes
CopyBy None m = ⊥

-- a message whose copy may want it
abbrev pub CopyGrows : Meaning → Type 0
CopyGrows (message type m) = CopyBy (kind_of_type type) m
CopyGrows (other type bytes) = 0 < length bytes

abbrev CoherentBy : (k : Option MessageKind) → Under k → Type 0
CoherentBy (Some kind) m = IsCoherent (form_of kind).grammar m
CoherentBy None m = ⊥

-- what can be read; another type is none of these
abbrev pub Coherent : Meaning → Type 0
Coherent (message type m) = CoherentBy (kind_of_type type) m
Coherent (other type bytes) = (type_of type ≡ Unknown) × IsBytes bytes

one_by : (k : Option MessageKind) (of : Under k → Meaning) (type : ℕ) (bytes : List ℕ) (x y : Meaning) → ReadsBy k of type bytes x
    → ReadsBy k of type bytes y → x ≡ y
one_by (Some kind) of type bytes x y (m, p, e) (n, q, f) = e ∙ ap of (message-one (form_of kind).grammar bytes m n p q) ∙ sym f
one_by None of type bytes x y p q = p ∙ sym q

pub one : (t : MessageType) (type : ℕ) (bytes : List ℕ) (x y : Meaning) → ReadsUnder t type bytes x → ReadsUnder t type bytes y → x ≡ y
one t type bytes x y p q = one_by (kind_of_type t) (λ m. message t m) type bytes x y p q

sound_by : (k : Option MessageKind) (of : Under k → Meaning) (type : ℕ) (bytes : List ℕ) (x : Meaning) (e : DecodeError) → ReadsBy k of type bytes x
    → FaultBy k bytes e → ⊥
sound_by (Some kind) of type bytes x e (m, p, is) bad = message-sound (form_of kind).grammar bytes m e bad p
sound_by None of type bytes x e p bad = bad

pub sound : (t : MessageType) (type : ℕ) (bytes : List ℕ) (x : Meaning) (e : DecodeError) → ReadsUnder t type bytes x → FaultUnder t bytes e → ⊥
sound t type bytes x e p bad = sound_by (kind_of_type t) (λ m. message t m) type bytes x e p bad

abbrev pub IsKnown : ℕ → Meaning → Type 0
IsKnown type x = Coherent x × (number x ≡ type)

abbrev NoneKnown : Option MessageKind → ℕ → Type 0
NoneKnown (Some kind) type = Unit {0}
NoneKnown None type = type_of type ≡ Unknown

none_known : (t : MessageType) (type : ℕ) → type_of type ≡ t → NoneKnown (kind_of_type t) type
none_known Unknown type is = is
none_known t type is = tt

known_by : (k : Option MessageKind) (of : Under k → Meaning) (type : ℕ) (bytes : List ℕ) (x : Meaning)
    → ((m : Under k) → CoherentBy k m → IsKnown type (of m)) → NoneKnown k type → IsBytes bytes → ReadsBy k of type bytes x → IsKnown type x
known_by (Some kind) of type bytes x each none is (m, p, e) =
    subst (IsKnown type) (sym e) (each m (message-coherent (form_of kind).grammar bytes m is p))
known_by None of type bytes x each none is p = subst (IsKnown type) (sym p) ((none, is), refl)

pub known : (t : MessageType) (type : ℕ) (bytes : List ℕ) (x : Meaning) → type_of type ≡ t → HasNumber t type
    → IsBytes bytes → ReadsUnder t type bytes x → IsKnown type x
known t type bytes x t_is has is p =
    known_by (kind_of_type t) (λ m. message t m) type bytes x (λ m c. (c, number-back t type m has)) (none_known t type t_is) is p

back_by : (k : Option MessageKind) (of : Under k → Meaning) (type : ℕ) (m : Under k) → CoherentBy k m → unfit_under k m ≡ None
    → ReadsBy k of type (bytes_under k m) (of m)
back_by (Some kind) of type m c fits = (m, message-back (form_of kind).grammar m c fits, refl)
back_by None of type m c fits = absurd m

pub back : (x : Meaning) → Coherent x → meaning_unfit x ≡ None → ReadsUnder (type_of (number x)) (number x) (encode x) x
back (message t m) c fits =
    subst (λ (u : MessageType). ReadsUnder u (type_number t) (bytes_under (kind_of_type t) m) (message t m)) (sym (type-number t m))
    (back_by (kind_of_type t) (λ n. message t n) (type_number t) m c fits)
back (other type bytes) c fits = subst (λ (t : MessageType). ReadsUnder t type bytes (other type bytes)) (sym c.0) refl

-- rtnetlink
abbrev pub rtnetlink : Protocol Meaning
rtnetlink = record {
  number = number;
  encode = encode;
  unfit = meaning_unfit;
  Reads = λ kind bytes x. ReadsUnder (type_of kind) kind bytes x;
  Faulty = λ kind bytes e. FaultUnder (type_of kind) bytes e;
  Coherent = Coherent;
  one_reading = λ kind bytes x y p q. one (type_of kind) kind bytes x y p q;
  no_fault = λ kind bytes x e p bad. sound (type_of kind) kind bytes x e p bad;
  reads_coherent = λ kind bytes x small is p. known (type_of kind) kind bytes x refl (number-is kind) is p;
  reads_back = back;
}
