-- Where the fault of a run stands, and what is said of it.
use Rattle.std.specs.Prelude.{◌≡◌, ◌⊎◌, ◌↔◌, ℕ, ◌<◌, ◌≤◌, true, List, [], ◌++◌, codes, length, take, Option, Some, None, IsSome, IsTrue}
use Rattle.hex_text.specs.HexText.{IsBadAt, IsHexText}
use Rattle.hex_text.specs.Place.{IsPlace, place_text}
use Rattle.netlink_packet_route.specs.Codec.{leading}
use Rattle.netlink_packet_route.specs.MessageKind.{form_of, header_size, kind_of_type}
use Rattle.netlink_packet_route.specs.Messages.{MessageFault}
use Rattle.netlink_packet_route.specs.NetlinkHeader.{header}
use Rattle.netlink_packet_route.specs.MessageTypes.{type_of}
use Rattle.netlink_packet_route.specs.Stops.{StandsIn}
use Rattle.netlink_packet_route.specs.declared.MessageKind.{MessageKind}
use Rattle.netlink_packet_route.specs.declared.Located.{Located}
use Rattle.netlink_packet_route.specs.declared.envelope.NetlinkHeader.{NetlinkHeader}
use Rattle.netlink_report.specs.declared.ended.Where.{Where}
use Rattle.netlink_report.specs.declared.ended.Where.TheVariants.{Nowhere, Text, Message}
use Rattle.netlink_report.specs.declared.error.RunError.{RunError}
use Rattle.netlink_report.specs.declared.error.RunError.TheVariants.{BadHex, Refused}

-- the bytes begin with an envelope (linux/netlink.h, struct nlmsghdr): its length is one that a message has there, and its type one of rtnetlink
unfoldable pub BeginsEnvelope : List ℕ → Type 0
BeginsEnvelope bytes =
    (h : NetlinkHeader) × (leading header).Reads bytes h × (16 ≤ h.length) × (h.length ≤ length bytes) × IsSome (kind_of_type (type_of h.message_type))

-- what is told is the first fault of a message of this kind, and stands there; the offset is 0 where there is no whole header
abbrev pub IsLocated : MessageKind → List ℕ → Located → Type 0
IsLocated kind bytes place =
    MessageFault (form_of kind).grammar bytes place.refusal
    × (((length bytes < header_size kind) × (place.offset ≡ 0)) ⊎ StandsIn kind bytes place.offset place.refusal)

-- the text is wrong at this line and column
unfoldable pub IsTextPlace : List ℕ → Where → Type 0
IsTextPlace text (Text place) = (n : ℕ) × IsBadAt text n × IsPlace (take n text) place.line place.column
IsTextPlace text other = ⊥

-- the bytes, which are no message of this kind, are wrong there, and whether they begin with an envelope is told
unfoldable pub IsMessagePlace : MessageKind → List ℕ → Where → Type 0
IsMessagePlace kind bytes (Message located is_envelope) = IsLocated kind bytes located × (IsTrue is_envelope ↔ BeginsEnvelope bytes)
IsMessagePlace kind bytes other = ⊥

-- the place of a fault in a text
abbrev pub IsPlaceIn : MessageKind → List ℕ → RunError → Where → Type 0
IsPlaceIn kind text BadHex place = IsTextPlace text place
IsPlaceIn kind text (Refused e) place = (bytes : List ℕ) × IsHexText text bytes × IsMessagePlace kind bytes place
IsPlaceIn kind text error place = place ≡ Nowhere

-- ---- in words

-- of a message that of its fault, which has no definition
abbrev pub text_of : Where → Option (List ℕ)
text_of Nowhere = Some []
text_of (Text place) = Some (codes "at " ++ place_text place.line place.column)
text_of (Message located is_envelope) = None

abbrev pub hint_of : Where → Option (List ℕ)
hint_of (Message located true) = Some (codes "these bytes begin with an envelope (struct nlmsghdr), which `nlshow --hex` reads")
hint_of place = None
