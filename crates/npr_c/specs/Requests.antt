-- Requests, written into a buffer (linux/netlink.h: struct nlattr, struct nlmsghdr).
--     WritesAt          bytes stand at a place, and all else is as it was
--     NoRoom            why so many bytes can't stand there
--     PlacesAt          what a call answers that writes bytes at a place
--     PutsAt            an attribute: header, value and padding
--     CopiesAt          a header of a fixed size, with padding
--     EndsAttributeAt   the length of an attribute, or of a next hop, in its header
--     EndsMessageAt     that of a message
use Rattle.std.specs.Prelude.{◌≡◌, ◌⊎◌, ◌<◌, ◌≤◌, ℕ, ◌+◌, ◌-◌, ◌%◌, ◌^◌, min, List, ◌++◌, length, take, drop, replicate}
use Rattle.std.specs.Int.{w16, w32, to_le_bytes, from_le_bytes}
use Rattle.netlink_packet_core.specs.Header.{header}
use Rattle.netlink_packet_core.specs.declared.header.NetlinkHeader.{NetlinkHeader}
use Rattle.netlink_packet_core.specs.declared.refusal.EnvelopeError.TheVariants.{MessageLength}
use Rattle.netlink_packet_route.specs.Framing.{Item, encoding, pad}
use Rattle.netlink_packet_route.specs.NextHopHeader.{next_hop_buffer}
use Rattle.netlink_packet_route.specs.declared.framing.DecodeError.TheVariants.{AttributeLength}
use Rattle.netlink_packet_route.specs.declared.framing.EmitError.TheVariants.{TooLong, Total}
use Rattle.netlink_packet_route.specs.declared.route.RouteNextHopBuffer.{RouteNextHopBuffer}
use Rattle.npr_c.specs.Answers.{refused_answer, refused_by, short_answer, unfit_answer, written_answer}
use Rattle.npr_c.specs.Envelopes.{envelope_number}
use Rattle.npr_c.specs.declared.answer.Answer.{Answer}
use Rattle.npr_c.specs.declared.envelopes.Envelope.{Envelope}
use Rattle.npr_c.specs.declared.next_hops.NextHop.{NextHop}
use Rattle.npr_c.specs.declared.steps.Step.{Step}

-- ---- bytes at a place

abbrev pub WritesAt : List ℕ → List ℕ → ℕ → List ℕ → Type 0
WritesAt old new at bytes = new ≡ take at old ++ (bytes ++ drop (at + length bytes) old)

-- no number of a program holds the place behind them, or it is past the end
abbrev pub NoRoom : ℕ → ℕ → ℕ → Answer → Type 0
NoRoom room at count answer =
    ((2 ^ 64 ≤ at + count) × (answer ≡ unfit_answer Total))
    ⊎ ((at + count < 2 ^ 64) × (room < at + count) × (answer ≡ short_answer (at + count)))

-- they are written, and the answer is the place behind them; or they have no room, and nothing is
abbrev pub PlacesAt : List ℕ → List ℕ → ℕ → List ℕ → Answer → Type 0
PlacesAt old new at bytes answer =
    ((at + length bytes ≤ length old) × (answer ≡ written_answer (at + length bytes)) × WritesAt old new at bytes)
    ⊎ (NoRoom (length old) at (length bytes) answer × (new ≡ old))

-- ---- attributes and headers

-- the length in the header, of 16 bits, counts the header: no longer value is written
abbrev pub PutsAt : List ℕ → List ℕ → ℕ → Item → Answer → Type 0
PutsAt old new at x answer =
    ((65531 < length x.value) × (answer ≡ unfit_answer (TooLong x.kind (length x.value))) × (new ≡ old))
    ⊎ ((length x.value ≤ 65531) × PlacesAt old new at (encoding x) answer)

-- the step over an attribute that was put
abbrev pub put_step : ℕ → ℕ → ℕ → ℕ → Step
put_step at kind len next = record { status = 0; number = 0; value = at + 4; length = len; next = next; kind = kind }

abbrev pub CopiesAt : List ℕ → List ℕ → ℕ → List ℕ → Answer → Type 0
CopiesAt old new at bytes answer = PlacesAt old new at (bytes ++ replicate (pad (length bytes)) 0) answer

-- ---- what ends at a place

-- an attribute or a next hop from one place to another: a header of four bytes, and whole padding inside
abbrev pub AttributeEnds : ℕ → ℕ → ℕ → Type 0
AttributeEnds room start end = (start + 4 ≤ end) × (end ≤ room) × ((end - start) % 4 ≡ 0)

-- its length is written in front of its header, where 16 bits hold it; at other places none ends
abbrev pub EndsAttributeAt : List ℕ → List ℕ → ℕ → ℕ → Answer → Type 0
EndsAttributeAt old new start end answer =
    let size : ℕ = end - start in
    (AttributeEnds (length old) start end × (size ≤ 65535) × (answer ≡ written_answer end) × WritesAt old new start (to_le_bytes w16 size))
    ⊎ (AttributeEnds (length old) start end × (65535 < size) × (answer ≡ unfit_answer (TooLong 0 size)) × (new ≡ old))
    ⊎ ((AttributeEnds (length old) start end → ⊥) × (answer ≡ refused_answer (AttributeLength 0 0)) × (new ≡ old))

-- the step over it, by the kind that stands there
abbrev pub ended_step : List ℕ → ℕ → ℕ → Step
ended_step bytes start end = record {
  status = 0;
  number = 0;
  value = start + 4;
  length = end - (start + 4);
  next = end;
  kind = from_le_bytes w16 (take 2 (drop (start + 2) bytes));
}

-- the header of a next hop that stands at the place
abbrev pub hop_there : List ℕ → ℕ → RouteNextHopBuffer
hop_there bytes start = next_hop_buffer.decode (take 8 (drop start bytes))

-- the step over a next hop, by what else its header says
abbrev pub ended_hop : List ℕ → ℕ → ℕ → NextHop
ended_hop bytes start end = record {
  status = 0;
  number = 0;
  interface_index = (hop_there bytes start).interface_index;
  flags = (hop_there bytes start).flags;
  hops = (hop_there bytes start).hops;
  attributes = start + 8;
  end = end;
  next = end;
}

-- a message from one place to another: a header of 16 bytes in front
abbrev pub MessageEnds : ℕ → ℕ → ℕ → Type 0
MessageEnds room start end = (start + 16 ≤ end) × (end ≤ room)

-- its length is written in front of its header, where 32 bits hold it; at other places none ends
abbrev pub EndsMessageAt : List ℕ → List ℕ → ℕ → ℕ → Answer → Type 0
EndsMessageAt old new start end answer =
    let size : ℕ = end - start in
    (MessageEnds (length old) start end × (size < 2 ^ 32) × (answer ≡ written_answer end) × WritesAt old new start (to_le_bytes w32 size))
    ⊎ (MessageEnds (length old) start end × (2 ^ 32 ≤ size) × (answer ≡ unfit_answer Total) × (new ≡ old))
    ⊎ ((MessageEnds (length old) start end → ⊥) × (answer ≡ refused_by (envelope_number (MessageLength 0 0 0))) × (new ≡ old))

-- the header that stands at the place
abbrev pub header_there : List ℕ → ℕ → NetlinkHeader
header_there bytes start = header.decode (take 16 (drop start bytes))

-- the step over it, by what else its header says; the next message begins at a multiple of four bytes
abbrev pub ended_envelope : List ℕ → ℕ → ℕ → Envelope
ended_envelope bytes start end = record {
  status = 0;
  number = 0;
  message_type = (header_there bytes start).message_type;
  flags = (header_there bytes start).flags;
  sequence_number = (header_there bytes start).sequence_number;
  port_number = (header_there bytes start).port_number;
  payload = start + 16;
  length = end - (start + 16);
  next = min (end + pad (end - start)) (length bytes);
}
