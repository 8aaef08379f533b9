-- A message: its header, and what stands behind it.
use Rattle.std.specs.Prelude.{◌≡◌, ℕ, ◌+◌, ◌^◌, List, ◌++◌, length, replicate, nat_lt, Option, Some, None, if◌then◌else◌}
use Rattle.npr_base.specs.Lists.{option_or}
use Rattle.npr_base.specs.Framing.{pad}
use Rattle.npr_base.specs.declared.refusal.EmitError.{EmitError}
use Rattle.npr_base.specs.declared.refusal.EmitError.TheVariants.{Total}
use Rattle.netlink_packet_core.specs.Envelope.{Envelope}
use Rattle.netlink_packet_core.specs.Header.{header}
use Rattle.netlink_packet_core.specs.Payload.{Payload, payload_of, payload_type, payload_bytes, payload_unfit, PayloadReads, PayloadFault, IsCoherentPayload}
use Rattle.netlink_packet_core.specs.Protocol.{Protocol}
use Rattle.netlink_packet_core.specs.declared.header.NetlinkHeader.{NetlinkHeader}
use Rattle.netlink_packet_core.specs.declared.message.NetlinkMessage.{NetlinkMessage}
use Rattle.npr_base.specs.declared.refusal.DecodeError.{DecodeError}

-- a message without where it lies in memory
pub record View (M : Type 0) : Type 0 where
  pub header : NetlinkHeader
  pub payload : Payload M

abbrev pub message_of : {I M : Type 0} → (I → M) → NetlinkMessage I → View M
message_of meaning m = record { header = m.header; payload = payload_of meaning m.payload }

-- the envelope is the message
abbrev pub IsNetlinkMessage : {M : Type 0} → Protocol M → Envelope → View M → Type 0
IsNetlinkMessage P x m = (m.header ≡ x.header) × PayloadReads P x.header.message_type x.payload m.payload

-- the first fault of one that is none
abbrev pub NetlinkFault : {M : Type 0} → Protocol M → Envelope → DecodeError → Type 0
NetlinkFault P x e = PayloadFault P x.header.message_type x.payload e

-- what can be read
pub record IsCoherentMessage {M : Type 0} (P : Protocol M) (m : View M) : Type 0 where
  pub header : header.Holds m.header
  pub kind : m.header.message_type ≡ payload_type P m.payload
  pub payload : IsCoherentPayload P m.payload

-- the header that is written: the length and the type are those of the payload
abbrev pub final_header : {M : Type 0} → Protocol M → View M → NetlinkHeader
final_header P m = record {
  length = 16 + length (payload_bytes P m.payload);
  message_type = payload_type P m.payload;
  flags = m.header.flags;
  sequence_number = m.header.sequence_number;
  port_number = m.header.port_number;
}

-- the message with that header
abbrev pub finalized : {M : Type 0} → Protocol M → View M → View M
finalized P m = record { header = final_header P m; payload = m.payload }

-- the envelope that is written
abbrev pub envelope_of : {M : Type 0} → Protocol M → View M → Envelope
envelope_of P m = record { header = final_header P m; payload = payload_bytes P m.payload }

-- its bytes, with whole padding of zeros
abbrev pub framed : Envelope → List ℕ
framed x = (header.encode x.header ++ x.payload) ++ replicate (pad (length x.payload)) 0

abbrev pub message_bytes : {M : Type 0} → Protocol M → View M → List ℕ
message_bytes P m = framed (envelope_of P m)

-- a length of header and payload that the header can't say
abbrev pub oversized : ℕ → Option EmitError
oversized n = if nat_lt (16 + n) (2 ^ 32) then None else Some Total

-- why there are none: the payload can't be written, or is too long
abbrev pub netlink_unfit : {M : Type 0} → Protocol M → View M → Option EmitError
netlink_unfit P m = option_or (payload_unfit P m.payload) (oversized (length (payload_bytes P m.payload)))
