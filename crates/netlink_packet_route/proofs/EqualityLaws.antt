-- What `==` answers of the messages of rtnetlink: whether they mean the same.
use Rattle.std.specs.Prelude.{◌≡◌, ℕ, ◌+◌, List}
use Rattle.std.specs.Cmp.{unsigned_Decides}
use Rattle.std.proofs.Common.{ap}
use Rattle.npr_base.specs.Equality.{IsEqualityOf}
use Rattle.npr_base.proofs.MeaningLaws.{items_equality}
use Rattle.npr_base.proofs.StructLaws.{and_decides, decides_as}
use Rattle.netlink_packet_route.specs.MessageKind.{MessageOf, kind_of_type}
use Rattle.netlink_packet_route.specs.RouteNetlinkMessage.{Meaning, message, other, other_of}
use Rattle.netlink_packet_route.specs.MessageTypes.{Under}
use Rattle.netlink_packet_route.specs.contracts.message.OtherMessagePartialEq.TheImpl as OtherEq
use Rattle.netlink_packet_route.specs.declared.kind.MessageKind.{MessageKind}
use Rattle.netlink_packet_route.specs.declared.kind.MessageKind.TheVariants as Kind
use Rattle.netlink_packet_route.specs.declared.message_type.Action.{Action}
use Rattle.netlink_packet_route.specs.declared.message_type.Action.TheVariants.{New, Del, Get}
use Rattle.netlink_packet_route.specs.declared.message_type.MessageType.{MessageType}
use Rattle.netlink_packet_route.specs.declared.message_type.MessageType.TheVariants.{Of, SetLink, NewPrefix, NewStats, Unknown}
use Rattle.netlink_packet_route.specs.declared.message_type.MessageType.TheVariants.{NewNeighbourTable, GetNeighbourTable, SetNeighbourTable}
use Rattle.netlink_packet_route.specs.declared.message_type.Subject.{Subject}
use Rattle.netlink_packet_route.specs.declared.message_type.Subject.TheVariants.{Link, Address, Route, Neighbour, Rule, AddressLabel, Netconf, Nsid}
use Rattle.netlink_packet_route.specs.declared.message_type.Subject.TheVariants.{NextHop, LinkProp, NextHopBucket}
use Rattle.netlink_packet_route.specs.declared.message_type.Subject.TheVariants.{QueueDiscipline, TrafficClass, TrafficFilter, TrafficChain}
use Rattle.netlink_packet_route.specs.declared.message_type.Subject.TheVariants.{TrafficAction}

-- the places of the variants
unfoldable pub action_order : Action → ℕ
action_order New = 0
action_order Del = 1
action_order Get = 2

abbrev subject_order : Subject → ℕ
subject_order Link = 0
subject_order Address = 4
subject_order Route = 7
subject_order Neighbour = 10
subject_order Rule = 13
subject_order QueueDiscipline = 16
subject_order TrafficClass = 19
subject_order TrafficFilter = 22
subject_order TrafficAction = 25
subject_order AddressLabel = 32
subject_order Netconf = 35
subject_order Nsid = 38
subject_order TrafficChain = 42
subject_order NextHop = 45
subject_order LinkProp = 48
subject_order NextHopBucket = 51

abbrev type_order : MessageType → ℕ
type_order (Of subject a) = subject_order subject + action_order a
type_order SetLink = 3
type_order NewPrefix = 28
type_order NewStats = 41
type_order NewNeighbourTable = 29
type_order GetNeighbourTable = 30
type_order SetNeighbourTable = 31
type_order Unknown = 0

unfoldable pub order : Meaning → ℕ
order (message type m) = type_order type
order (other type bytes) = 54

-- a message of a kind is one
abbrev as_kind : (kind : MessageKind) → MessageOf kind → Meaning → MessageOf kind
as_kind Kind.Address m (message (Of Address a) n) = n
as_kind Kind.Route m (message (Of Route a) n) = n
as_kind Kind.Rule m (message (Of Rule a) n) = n
as_kind Kind.Neighbour m (message (Of Neighbour a) n) = n
as_kind Kind.Link m (message (Of Link a) n) = n
as_kind Kind.Link m (message (Of LinkProp a) n) = n
as_kind Kind.Link m (message SetLink n) = n
as_kind Kind.NextHop m (message (Of NextHop a) n) = n
as_kind Kind.NextHop m (message (Of NextHopBucket a) n) = n
as_kind Kind.Nsid m (message (Of Nsid a) n) = n
as_kind Kind.Netconf m (message (Of Netconf a) n) = n
as_kind Kind.AddressLabel m (message (Of AddressLabel a) n) = n
as_kind Kind.NeighbourTable m (message NewNeighbourTable n) = n
as_kind Kind.NeighbourTable m (message GetNeighbourTable n) = n
as_kind Kind.NeighbourTable m (message SetNeighbourTable n) = n
as_kind Kind.Prefix m (message NewPrefix n) = n
as_kind Kind.Stats m (message NewStats n) = n
as_kind Kind.Tc m (message (Of QueueDiscipline a) n) = n
as_kind Kind.Tc m (message (Of TrafficClass a) n) = n
as_kind Kind.Tc m (message (Of TrafficFilter a) n) = n
as_kind Kind.Tc m (message (Of TrafficChain a) n) = n
as_kind Kind.TcAction m (message (Of TrafficAction a) n) = n
as_kind kind m x = m

pub message_one : (type : MessageType) (m n : Under (kind_of_type type)) → message type m ≡ message type n → m ≡ n
message_one (Of Link a) m n e = ap (as_kind Kind.Link m) e
message_one (Of Address a) m n e = ap (as_kind Kind.Address m) e
message_one (Of Route a) m n e = ap (as_kind Kind.Route m) e
message_one (Of Neighbour a) m n e = ap (as_kind Kind.Neighbour m) e
message_one (Of Rule a) m n e = ap (as_kind Kind.Rule m) e
message_one (Of AddressLabel a) m n e = ap (as_kind Kind.AddressLabel m) e
message_one (Of Netconf a) m n e = ap (as_kind Kind.Netconf m) e
message_one (Of Nsid a) m n e = ap (as_kind Kind.Nsid m) e
message_one (Of NextHop a) m n e = ap (as_kind Kind.NextHop m) e
message_one (Of LinkProp a) m n e = ap (as_kind Kind.Link m) e
message_one (Of NextHopBucket a) m n e = ap (as_kind Kind.NextHop m) e
message_one (Of QueueDiscipline a) m n e = ap (as_kind Kind.Tc m) e
message_one (Of TrafficClass a) m n e = ap (as_kind Kind.Tc m) e
message_one (Of TrafficFilter a) m n e = ap (as_kind Kind.Tc m) e
message_one (Of TrafficAction a) m n e = ap (as_kind Kind.TcAction m) e
message_one (Of TrafficChain a) m n e = ap (as_kind Kind.Tc m) e
message_one SetLink m n e = ap (as_kind Kind.Link m) e
message_one NewPrefix m n e = ap (as_kind Kind.Prefix m) e
message_one NewStats m n e = ap (as_kind Kind.Stats m) e
message_one NewNeighbourTable m n e = ap (as_kind Kind.NeighbourTable m) e
message_one GetNeighbourTable m n e = ap (as_kind Kind.NeighbourTable m) e
message_one SetNeighbourTable m n e = ap (as_kind Kind.NeighbourTable m) e
message_one Unknown m n e = absurd m

abbrev pub other_by : ℕ × List ℕ → Meaning
other_by p = other p.0 p.1

pair_one : (p q : ℕ × List ℕ) → p.0 ≡ q.0 → p.1 ≡ q.1 → p ≡ q
pair_one p q kind bytes = λ i. (kind i, bytes i)

pub other_one : (p q : ℕ × List ℕ) → other_by p ≡ other_by q → p ≡ q
other_one p q e = pair_one p q (cc) (cc)

pub other_equality : IsEqualityOf other_of OtherEq.ghosts.eq
other_equality a b =
    decides_as (λ p. λ i. (p.0 i, p.1 i)) (λ e. (ap (λ (p : ℕ × List ℕ). p.0) e, ap (λ (p : ℕ × List ℕ). p.1) e))
    (and_decides (unsigned_Decides a.message_type b.message_type) (items_equality unsigned_Decides a.payload b.payload))
