-- The interfaces that were told of, and what messages tell of them.
use Rattle.std.specs.Prelude.{◌≡◌, ◌≢◌, ◌<◌, ◌⊎◌, ℕ, ◌==◌, Bool, false, not, List, [], Option, None, Some, All, length}
use Rattle.std.specs.Prelude.{bit_and, option_map, string_bytes}
use Rattle.std.specs.Bool.{MatchBool}
use Rattle.std.specs.BTreeMap.{get, IsUnchanged}
use Rattle.std.specs.Ordering.{nat_cmp}
use Rattle.netlink_packet_route.specs.Codec.{leading}
use Rattle.netlink_packet_route.specs.Framing.{Item, Front, Passes, Fault, number_of}
use Rattle.netlink_packet_route.specs.MessageKind.{Begins}
use Rattle.netlink_packet_route.specs.Nests.{reading_of}
use Rattle.netlink_packet_route.specs.LinkHeader.{header_buffer}
use Rattle.netlink_packet_route.specs.Text.{is_set}
use Rattle.netlink_packet_route.specs.Value.{Shown, is_name}
use Rattle.netlink_packet_route.specs.Values.{Seen, Unseen}
use Rattle.netlink_packet_route.specs.declared.framing.DecodeError.{DecodeError}
use Rattle.netlink_packet_route.specs.declared.kind.MessageKind.TheVariants as Kind
use Rattle.netlink_packet_route.specs.declared.nests.Nest.{Nest}
use Rattle.netlink_packet_route.specs.declared.link.LinkMessageBuffer.{LinkMessageBuffer}
use Rattle.netlink_packet_route.specs.declared.message_type.Action.TheVariants.{New, Del}
use Rattle.netlink_packet_route.specs.declared.message_type.MessageType.{MessageType}
use Rattle.netlink_packet_route.specs.declared.message_type.MessageType.TheVariants.{Of}
use Rattle.netlink_packet_route.specs.declared.message_type.Subject.TheVariants.{Link}
use Rattle.netlink_show.specs.declared.interfaces.Interface.{Interface}
use Rattle.netlink_show.specs.declared.interfaces.Interfaces.{Interfaces}

-- what was told of that of a number, if anything
abbrev pub told : Interfaces → ℕ → Option Interface
told interfaces index = get nat_cmp interfaces.known index

-- whether it is known not to be up
abbrev pub is_known_down : Option Interface → Bool
is_known_down None = false
is_known_down (Some interface) = not interface.is_up

-- nothing is learned
abbrev pub LearnsNothing : Interfaces → Interfaces → Type 0
LearnsNothing old new = IsUnchanged old.known new.known

-- of every other number is known what was known before
abbrev pub KeepsOthers : Interfaces → ℕ → Interfaces → Type 0
KeepsOthers old index new = (other : ℕ) → other ≢ index → told new other ≡ told old other

-- that of the number has the name, and is up or not
pub record LearnsName (old : Interfaces) (index : ℕ) (name : List ℕ) (is_up : Bool) (new : Interfaces) : Type 0 where
  pub named : option_map (λ interface. string_bytes interface.name) (told new index) ≡ Some name
  pub state : option_map (λ interface. interface.is_up) (told new index) ≡ Some is_up
  pub others : KeepsOthers old index new

-- nothing is known any more of that of the number
pub record Forgets (old : Interfaces) (index : ℕ) (new : Interfaces) : Type 0 where
  pub forgotten : told new index ≡ None
  pub others : KeepsOthers old index new

-- the number of the attribute with the name of a link (linux/if_link.h, IFLA_IFNAME)
abbrev pub ifname : ℕ
ifname = 3

-- attributes of other numbers stand in front of the rest
pub record Nameless (bytes rest : List ℕ) : Type 0 where
  pub passed : List Item
  pub passes : Passes bytes passed rest
  pub others : All (λ x. number_of x.kind ≢ ifname) passed

-- the first of that number
pub record IsNaming (bytes : List ℕ) (x : Item) : Type 0 where
  pub rest : List ℕ
  pub before : Nameless bytes rest
  pub more : List ℕ
  pub front : Front rest x more
  pub number : number_of x.kind ≡ ifname

-- a value that is no name
abbrev pub IsNoName : Shown → Type 0
IsNoName (is_name text) = ⊥
IsNoName s = Unit {0}

-- the name that it tells where it stands, or that it tells none
abbrev pub Names : Nest → Item → Option (List ℕ) → Type 0
Names nest x (Some name) = Seen (reading_of nest).reading x (is_name name)
Names nest x None =
    ((e : DecodeError) × Unseen (reading_of nest).reading x e) ⊎ ((s : Shown) × Seen (reading_of nest).reading x s × IsNoName s)

-- no attribute stands in front: the end, or a fault
abbrev pub Ends : List ℕ → Type 0
Ends rest = (rest ≡ []) ⊎ ((e : DecodeError) × (0 < length rest) × Fault rest e)

-- the name that attributes tell of their link, by the first IFLA_IFNAME; where there is none, they tell none
abbrev pub TellsName : Nest → List ℕ → Option (List ℕ) → Type 0
TellsName nest bytes name =
    ((x : Item) × IsNaming bytes x × Names nest x name) ⊎ ((rest : List ℕ) × Nameless bytes rest × Ends rest × (name ≡ None))

-- whether a link is up (IFF_UP)
abbrev pub is_up : LinkMessageBuffer → Bool
is_up header = is_set header.flags 1

-- of a link that is there and has the name, or none: nothing without a number or a name
abbrev pub LearnsUnder : Interfaces → LinkMessageBuffer → Option (List ℕ) → Interfaces → Type 0
LearnsUnder old header None new = LearnsNothing old new
LearnsUnder old header (Some name) new =
    MatchBool (header.link_index == 0) (LearnsNothing old new) (LearnsName old header.link_index name (is_up header) new)

-- the header in front of the bytes tells this, or there are too few for one, which tells nothing
abbrev pub ByHeader : List ℕ → Interfaces → Interfaces → (LinkMessageBuffer → Type 0) → Type 0
ByHeader bytes old new tells =
    ((length bytes < header_buffer.size) × LearnsNothing old new)
    ⊎ ((header : LinkMessageBuffer) × (leading header_buffer).Reads bytes header × tells header)

-- of a link that is there, by the name that the attributes behind the header tell
abbrev pub LearnsNew : Interfaces → List ℕ → Interfaces → Type 0
LearnsNew old bytes new =
    ByHeader bytes old new (λ header. (nest : Nest) × (rest : List ℕ) × Begins Kind.Link bytes nest rest
    × (name : Option (List ℕ)) × TellsName nest rest name × LearnsUnder old header name new)

-- of a link that is gone: under a family (AF_UNSPEC is 0) it has left that alone, as a port its bridge
abbrev pub LearnsGone : Interfaces → List ℕ → Interfaces → Type 0
LearnsGone old bytes new =
    ByHeader bytes old new (λ header. MatchBool (header.interface_family == 0) (Forgets old header.link_index new) (LearnsNothing old new))

-- of what stands behind an envelope whose type says this: links that are there or gone tell something, and nothing else does
abbrev pub LearnsOf : Interfaces → MessageType → List ℕ → Interfaces → Type 0
LearnsOf old (Of Link New) bytes new = LearnsNew old bytes new
LearnsOf old (Of Link Del) bytes new = LearnsGone old bytes new
LearnsOf old says bytes new = LearnsNothing old new

-- of a message: a request (NLM_F_REQUEST) tells nothing
abbrev pub Learns : Interfaces → MessageType → ℕ → List ℕ → Interfaces → Type 0
Learns old says flags bytes new = MatchBool (bit_and flags 1 == 0) (LearnsOf old says bytes new) (LearnsNothing old new)
