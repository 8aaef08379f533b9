-- One step over the messages of a datagram, by its place in the bytes.
use Rattle.std.specs.Prelude.{◌≡◌, ◌⊎◌, ◌<◌, ◌≤◌, ℕ, ◌+◌, List, length, take, drop, codes}
use Rattle.netlink_packet_core.specs.Envelope.{Envelope as Message, EnvelopeFront, EnvelopeFault}
use Rattle.netlink_packet_core.specs.declared.header.NetlinkHeader.{NetlinkHeader}
use Rattle.netlink_packet_core.specs.declared.refusal.EnvelopeError.{EnvelopeError}
use Rattle.netlink_packet_core.specs.declared.refusal.EnvelopeError.TheVariants.{MessageTooShort, MessageLength}
use Rattle.npr_c.specs.declared.envelopes.Envelope.{Envelope}

-- the number of a refusal of a datagram, behind those of other bytes, and its name
abbrev pub envelope_number : EnvelopeError → ℕ
envelope_number (MessageTooShort offset left) = 14
envelope_number (MessageLength offset length left) = 15

abbrev pub envelope_name : EnvelopeError → List ℕ
envelope_name (MessageTooShort offset left) = codes "MessageTooShort"
envelope_name (MessageLength offset length left) = codes "MessageLength"

-- the message that the step tells of: its header, and the bytes at the place of its payload
abbrev pub header_of : Envelope → NetlinkHeader
header_of step = record {
  length = 16 + step.length;
  message_type = step.message_type;
  flags = step.flags;
  sequence_number = step.sequence_number;
  port_number = step.port_number;
}

abbrev pub message_of : List ℕ → Envelope → Message
message_of datagram step = record { header = header_of step; payload = take step.length (drop step.payload datagram) }

-- a message stands at the place: it, and the bytes from the next place on
pub record EnvelopeAt (datagram : List ℕ) (at : ℕ) (step : Envelope) : Type 0 where
  pub status : step.status ≡ 0
  pub number : step.number ≡ 0
  pub front : EnvelopeFront (drop at datagram) (message_of datagram step) (drop step.next datagram)
  pub place : step.payload ≡ at + 16
  pub within : step.payload + step.length ≤ step.next
  pub end : step.next ≤ length datagram

-- a step that tells of none
abbrev pub no_envelope : ℕ → ℕ → Envelope
no_envelope status number = record {
  status = status;
  number = number;
  message_type = 0;
  flags = 0;
  sequence_number = 0;
  port_number = 0;
  payload = 0;
  length = 0;
  next = 0;
}

-- what a step answers; a fault is told of the bytes from the place on
abbrev pub EnvelopesAt : List ℕ → ℕ → Envelope → Type 0
EnvelopesAt datagram at step =
    ((length datagram ≤ at) × (step ≡ no_envelope 2 0))
    ⊎ ((e : EnvelopeError) × (at < length datagram) × EnvelopeFault 0 (drop at datagram) e × (step ≡ no_envelope 1 (envelope_number e)))
    ⊎ EnvelopeAt datagram at step
