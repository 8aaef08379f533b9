-- The kinds of messages by their numbers.
use Rattle.std.specs.Prelude.{ℕ, List, [], ◌∷◌, Option, Some, None}
use Rattle.npr_base.specs.Rows.{form_in}
use Rattle.netlink_packet_route.specs.MessageKind.{kind_of_type}
use Rattle.netlink_packet_route.specs.MessageTypes.{type_of}
use Rattle.netlink_packet_route.specs.declared.kind.MessageKind.{MessageKind}
use Rattle.netlink_packet_route.specs.declared.kind.MessageKind.TheVariants.{Address, Route, Rule, Neighbour, Link}
use Rattle.netlink_packet_route.specs.declared.kind.MessageKind.TheVariants.{NextHop, Nsid, Netconf, AddressLabel, NeighbourTable, Prefix, Tc, TcAction, Stats}

-- the number of the refusal of a kind, behind those of datagrams
abbrev pub unknown_kind : ℕ
unknown_kind = 16

abbrev pub kind_number : MessageKind → ℕ
kind_number Address = 1
kind_number Route = 2
kind_number Rule = 3
kind_number Neighbour = 4
kind_number Link = 5
kind_number NextHop = 6
kind_number Nsid = 7
kind_number Netconf = 8
kind_number AddressLabel = 9
kind_number NeighbourTable = 10
kind_number Prefix = 11
kind_number Tc = 12
kind_number TcAction = 13
kind_number Stats = 14

abbrev pub numbered : MessageKind → ℕ × Option MessageKind
numbered kind = (kind_number kind, Some kind)

abbrev pub kinds : List (ℕ × Option MessageKind)
kinds =
    numbered Address ∷ numbered Route ∷ numbered Rule ∷ numbered Neighbour ∷ numbered Link ∷ numbered NextHop ∷ numbered Nsid
    ∷ numbered Netconf ∷ numbered AddressLabel ∷ numbered NeighbourTable ∷ numbered Prefix ∷ numbered Tc ∷ numbered TcAction
    ∷ numbered Stats ∷ []

-- the kind of a number, if it is that of one
abbrev pub kind_at : ℕ → Option MessageKind
kind_at number = form_in (λ d. None) kinds number

-- 0 where there is none
abbrev pub number_of_kind : Option MessageKind → ℕ
number_of_kind (Some kind) = kind_number kind
number_of_kind None = 0

-- of the messages of a type
abbrev pub number_of_type : ℕ → ℕ
number_of_type message_type = number_of_kind (kind_of_type (type_of message_type))
