-- The types of rtnetlink (linux/rtnetlink.h, RTM_*) by their numbers, and what stands under each.
use Rattle.std.specs.Prelude.{◌≡◌, ℕ, ◌+◌, ◌==◌, Bool, true, false, List, [], ◌∷◌, Option, Some, None, if◌then◌else◌}
use Rattle.std.proofs.Common.{refl, sym, subst}
use Rattle.std.proofs.lemmas.Bool.{eqb-true}
use Rattle.npr_base.specs.EnumTable.{◌also◌}
use Rattle.npr_base.specs.Rows.{form_in}
use Rattle.netlink_packet_route.specs.MessageKind.{kind_of_type, MessageOf}
use Rattle.netlink_packet_route.specs.declared.kind.MessageKind.{MessageKind}
use Rattle.netlink_packet_route.specs.declared.message_type.Action.TheVariants.{New, Del, Get}
use Rattle.netlink_packet_route.specs.declared.message_type.MessageType.{MessageType}
use Rattle.netlink_packet_route.specs.declared.message_type.MessageType.TheVariants.{Of, SetLink, NewPrefix, NewStats, Unknown}
use Rattle.netlink_packet_route.specs.declared.message_type.MessageType.TheVariants.{NewNeighbourTable, GetNeighbourTable, SetNeighbourTable}
use Rattle.netlink_packet_route.specs.declared.message_type.Subject.{Subject}
use Rattle.netlink_packet_route.specs.declared.message_type.Subject.TheVariants.{Link, Address, Route, Neighbour, Rule, AddressLabel, Netconf, Nsid}
use Rattle.netlink_packet_route.specs.declared.message_type.Subject.TheVariants.{NextHop, LinkProp, NextHopBucket}
use Rattle.netlink_packet_route.specs.declared.message_type.Subject.TheVariants.{QueueDiscipline, TrafficClass, TrafficFilter}
use Rattle.netlink_packet_route.specs.declared.message_type.Subject.TheVariants.{TrafficAction, TrafficChain}

-- the types, by their numbers
abbrev pub types : List (ℕ × MessageType)
types =
    (16, Of Link New) ∷ (17, Of Link Del) ∷ (18, Of Link Get) ∷ (19, SetLink) ∷ (20, Of Address New) ∷ (21, Of Address Del)
    ∷ (22, Of Address Get) ∷ (24, Of Route New) ∷ (25, Of Route Del) ∷ (26, Of Route Get) ∷ (28, Of Neighbour New)
    ∷ (29, Of Neighbour Del) ∷ (30, Of Neighbour Get) ∷ (32, Of Rule New) ∷ (33, Of Rule Del) ∷ (34, Of Rule Get)
    ∷ (36, Of QueueDiscipline New) ∷ (37, Of QueueDiscipline Del) ∷ (38, Of QueueDiscipline Get)
    ∷ (40, Of TrafficClass New) ∷ (41, Of TrafficClass Del) ∷ (42, Of TrafficClass Get)
    ∷ (44, Of TrafficFilter New) ∷ (45, Of TrafficFilter Del) ∷ (46, Of TrafficFilter Get)
    ∷ (48, Of TrafficAction New) ∷ (49, Of TrafficAction Del) ∷ (50, Of TrafficAction Get)
    ∷ (52, NewPrefix) ∷ (64, NewNeighbourTable) ∷ (66, GetNeighbourTable) ∷ (67, SetNeighbourTable) ∷ (72, Of AddressLabel New)
    ∷ (73, Of AddressLabel Del) ∷ (74, Of AddressLabel Get) ∷ (80, Of Netconf New) ∷ (81, Of Netconf Del) ∷ (82, Of Netconf Get)
    ∷ (88, Of Nsid New) ∷ (89, Of Nsid Del) ∷ (90, Of Nsid Get) ∷ (92, NewStats)
    ∷ (100, Of TrafficChain New) ∷ (101, Of TrafficChain Del) ∷ (102, Of TrafficChain Get)
    ∷ (104, Of NextHop New) ∷ (105, Of NextHop Del) ∷ (106, Of NextHop Get) ∷ (108, Of LinkProp New) ∷ (109, Of LinkProp Del) ∷ (110, Of LinkProp Get)
    ∷ (116, Of NextHopBucket New) ∷ (117, Of NextHopBucket Del) ∷ (118, Of NextHopBucket Get) ∷ []

abbrev pub type_of : ℕ → MessageType
type_of number = form_in (λ d. Unknown) types number

-- the number of a type: those on one subject follow one another
abbrev pub first_type : Subject → ℕ
first_type Link = 16
first_type Address = 20
first_type Route = 24
first_type Neighbour = 28
first_type Rule = 32
first_type AddressLabel = 72
first_type Netconf = 80
first_type Nsid = 88
first_type NextHop = 104
first_type LinkProp = 108
first_type NextHopBucket = 116
first_type QueueDiscipline = 36
first_type TrafficClass = 40
first_type TrafficFilter = 44
first_type TrafficChain = 100
first_type TrafficAction = 48

abbrev pub type_number : MessageType → ℕ
type_number (Of subject New) = first_type subject
type_number (Of subject Del) = first_type subject + 1
type_number (Of subject Get) = first_type subject + 2
type_number SetLink = 19
type_number NewPrefix = 52
type_number NewStats = 92
type_number NewNeighbourTable = 64
type_number GetNeighbourTable = 66
type_number SetNeighbourTable = 67
type_number Unknown = 0

-- what stands under a type: a message of its kind
abbrev pub Under : Option MessageKind → Type 0
Under (Some kind) = MessageOf kind
Under None = ⊥

-- the number of a type is its own
unfoldable pub HasNumber : MessageType → ℕ → Type 0
HasNumber Unknown type = Unit {0}
HasNumber t type = type ≡ type_number t

in_row : (b : Bool) (t u : MessageType) (type n : ℕ) → (type == n) ≡ b → HasNumber t n → HasNumber u type → HasNumber (if b then t else u) type
in_row true t u type n e h k = subst (HasNumber t) (sym (eqb-true type n e)) h
in_row false t u type n e h k = k

abbrev AreNumbered : List (ℕ × MessageType) → Type 0
AreNumbered [] = Unit {0}
AreNumbered (row ∷ rows) = HasNumber row.1 row.0 × AreNumbered rows

in_rows : (rows : List (ℕ × MessageType)) → AreNumbered rows → (type : ℕ) → HasNumber (form_in (λ d. Unknown) rows type) type
unfolding HasNumber
in_rows [] all type = tt
in_rows (row ∷ rows) all type = in_row (type == row.0) row.1 (form_in (λ d. Unknown) rows type) type row.0 refl all.0 (in_rows rows all.1 type)

pub number-is : (type : ℕ) → HasNumber (type_of type) type
unfolding HasNumber
number-is = in_rows types (
    refl also refl also refl also refl also refl also refl also refl also refl also refl also refl also refl also refl
    also refl also refl also refl also refl also refl also refl also refl also refl also refl also refl also refl also refl
    also refl also refl also refl also refl also refl also refl also refl also refl also refl also refl also refl also refl
    also refl also refl also refl also refl also refl also refl also refl also refl also refl also refl also refl also refl
    also refl also refl also refl also refl also refl also refl also tt)

pub number-back : (t : MessageType) (type : ℕ) → Under (kind_of_type t) → HasNumber t type → type_number t ≡ type
unfolding HasNumber
number-back Unknown type m has = absurd m
number-back t type m has = sym has

pub type-number : (t : MessageType) → Under (kind_of_type t) → type_of (type_number t) ≡ t
type-number (Of Link New) m = refl
type-number (Of Link Del) m = refl
type-number (Of Link Get) m = refl
type-number (Of Address New) m = refl
type-number (Of Address Del) m = refl
type-number (Of Address Get) m = refl
type-number (Of Route New) m = refl
type-number (Of Route Del) m = refl
type-number (Of Route Get) m = refl
type-number (Of Neighbour New) m = refl
type-number (Of Neighbour Del) m = refl
type-number (Of Neighbour Get) m = refl
type-number (Of Rule New) m = refl
type-number (Of Rule Del) m = refl
type-number (Of Rule Get) m = refl
type-number (Of AddressLabel New) m = refl
type-number (Of AddressLabel Del) m = refl
type-number (Of AddressLabel Get) m = refl
type-number (Of Netconf New) m = refl
type-number (Of Netconf Del) m = refl
type-number (Of Netconf Get) m = refl
type-number (Of Nsid New) m = refl
type-number (Of Nsid Del) m = refl
type-number (Of Nsid Get) m = refl
type-number (Of NextHop New) m = refl
type-number (Of NextHop Del) m = refl
type-number (Of NextHop Get) m = refl
type-number (Of LinkProp New) m = refl
type-number (Of LinkProp Del) m = refl
type-number (Of LinkProp Get) m = refl
type-number (Of NextHopBucket New) m = refl
type-number (Of NextHopBucket Del) m = refl
type-number (Of NextHopBucket Get) m = refl
type-number (Of QueueDiscipline New) m = refl
type-number (Of QueueDiscipline Del) m = refl
type-number (Of QueueDiscipline Get) m = refl
type-number (Of TrafficClass New) m = refl
type-number (Of TrafficClass Del) m = refl
type-number (Of TrafficClass Get) m = refl
type-number (Of TrafficFilter New) m = refl
type-number (Of TrafficFilter Del) m = refl
type-number (Of TrafficFilter Get) m = refl
type-number (Of TrafficChain New) m = refl
type-number (Of TrafficChain Del) m = refl
type-number (Of TrafficChain Get) m = refl
type-number (Of TrafficAction New) m = refl
type-number (Of TrafficAction Del) m = refl
type-number (Of TrafficAction Get) m = refl
type-number SetLink m = refl
type-number NewPrefix m = refl
type-number NewStats m = refl
type-number NewNeighbourTable m = refl
type-number GetNeighbourTable m = refl
type-number SetNeighbourTable m = refl
type-number Unknown m = absurd m
