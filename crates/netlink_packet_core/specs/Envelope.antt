-- How a datagram is cut into messages (linux/netlink.h, struct nlmsghdr, NLMSG_OK, NLMSG_NEXT).
--     Envelope          one message: its header, and the bytes behind it
--     EnvelopeFront     a message stands in front of the bytes, and then the rest
--     EnvelopePasses    messages stand one after the other, and then the rest
--     IsDatagram        messages and nothing else
--     EnvelopeFault     why no message stands in front
--     EnvelopeStops     messages, and then bytes in front of which none stands
--     EnvelopeStep      one step of a walk
use Rattle.std.specs.Prelude.{◌≡◌, ℕ, ◌+◌, ◌-◌, ◌<◌, ◌≤◌, ◌⊎◌, List, [], ◌∷◌, ◌++◌, length, take, Option, Some, None, Result, Ok, Err}
use Rattle.std.specs.Int.{w32, from_le_bytes}
use Rattle.npr_base.specs.Framing.{pad}
use Rattle.netlink_packet_core.specs.Header.{header}
use Rattle.netlink_packet_core.specs.declared.header.NetlinkHeader.{NetlinkHeader}
use Rattle.netlink_packet_core.specs.declared.refusal.EnvelopeError.{EnvelopeError}
use Rattle.netlink_packet_core.specs.declared.refusal.EnvelopeError.TheVariants.{MessageTooShort, MessageLength}

-- one message: its header, and the bytes behind it
pub record Envelope : Type 0 where
  pub header : NetlinkHeader
  pub payload : List ℕ

-- the message stands in front of the bytes, and then the rest: a header whose length is that of the message, the payload, and
-- padding to a multiple of four, which is whole where anything follows
pub record EnvelopeFront (bytes : List ℕ) (x : Envelope) (rest : List ℕ) : Type 0 where
  pub front : List ℕ
  pub padding : List ℕ
  pub is : bytes ≡ front ++ (x.payload ++ padding) ++ rest
  pub size : length front ≡ 16
  pub header : x.header ≡ header.decode front
  pub counts : x.header.length ≡ 16 + length x.payload
  pub most : length padding ≤ pad (length x.payload)
  pub whole : 0 < length rest → length padding ≡ pad (length x.payload)

-- the messages stand one after the other, and then the rest
abbrev pub EnvelopePasses : List ℕ → List Envelope → List ℕ → Type 0
EnvelopePasses bytes [] rest = bytes ≡ rest
EnvelopePasses bytes (x ∷ xs) rest = (more : List ℕ) × EnvelopeFront bytes x more × EnvelopePasses more xs rest

-- the bytes are the messages
abbrev pub IsDatagram : List ℕ → List Envelope → Type 0
IsDatagram bytes xs = EnvelopePasses bytes xs []

-- why no message stands in front of bytes at an offset: fewer than a header, or a length that can't be
abbrev pub EnvelopeFault : ℕ → List ℕ → EnvelopeError → Type 0
EnvelopeFault offset bytes (MessageTooShort place left) = (place ≡ offset) × (left ≡ length bytes) × (length bytes < 16)
EnvelopeFault offset bytes (MessageLength place len left) =
    (place ≡ offset) × (left ≡ length bytes) × (16 ≤ length bytes) × (len ≡ from_le_bytes w32 (take 4 bytes)) × ((len < 16) ⊎ (length bytes < len))

-- the messages, and then bytes in front of which none stands: the fault is told with their offset in the datagram
abbrev pub EnvelopeStops : List ℕ → List Envelope → EnvelopeError → Type 0
EnvelopeStops bytes xs e = (rest : List ℕ) × EnvelopePasses bytes xs rest × (0 < length rest) × EnvelopeFault (length bytes - length rest) rest e

-- one look in front of bytes at an offset
abbrev pub EnvelopeBegins : ℕ → List ℕ → Result Envelope EnvelopeError → Type 0
EnvelopeBegins offset bytes (Ok x) =
    (front : List ℕ) × (rest : List ℕ) × (bytes ≡ front ++ x.payload ++ rest) × (length front ≡ 16)
    × (x.header ≡ header.decode front) × (x.header.length ≡ 16 + length x.payload)
EnvelopeBegins offset bytes (Err e) = EnvelopeFault offset bytes e

-- what is left of a datagram, and the offset at which it stands there
pub record Tail : Type 0 where
  pub offset : ℕ
  pub bytes : List ℕ

-- one step of a walk, from what was left to what is
abbrev pub EnvelopeStep : Tail → Option (Result Envelope EnvelopeError) → Tail → Type 0
EnvelopeStep old None new = (old.bytes ≡ []) × (new ≡ old)
EnvelopeStep old (Some (Ok x)) new = EnvelopeFront old.bytes x new.bytes × (new.offset + length new.bytes ≡ old.offset + length old.bytes)
EnvelopeStep old (Some (Err e)) new =
    (0 < length old.bytes) × EnvelopeFault old.offset old.bytes e × (new.bytes ≡ []) × (new.offset ≡ old.offset + length old.bytes)
