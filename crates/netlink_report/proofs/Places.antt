-- Where the fault of a run stands.
use Rattle.std.specs.Prelude.{◌↔◌, IsSome, IsTrue}
use Rattle.std.proofs.Common.{◌≡◌, ℕ, ◌≤◌, Bool, List, length, sym, subst, ◌∙◌, arith}
use Rattle.netlink_packet_route.proofs.FaultLaws.{fault-none}
use Rattle.netlink_packet_route.specs.Codec.{leading}
use Rattle.netlink_packet_route.specs.MessageKind.{MessageOf, form_of, kind_of_type}
use Rattle.netlink_packet_route.specs.Messages.{IsMessage}
use Rattle.netlink_packet_route.specs.NetlinkHeader.{header}
use Rattle.netlink_packet_route.specs.Refusal.{no_place}
use Rattle.netlink_packet_route.specs.MessageTypes.{type_of}
use Rattle.netlink_packet_route.specs.declared.Located.{Located}
use Rattle.netlink_packet_route.specs.declared.MessageKind.{MessageKind}
use Rattle.netlink_packet_route.specs.declared.envelope.NetlinkHeader.{NetlinkHeader}
use Rattle.netlink_packet_route.specs.declared.framing.DecodeError.{DecodeError}
use Rattle.netlink_report.specs.Run.{IsRefused}
use Rattle.netlink_report.specs.Where.{BeginsEnvelope, IsLocated, IsMessagePlace}
use Rattle.netlink_report.specs.declared.ended.Where.TheVariants.{Message}

-- ---- an envelope

-- it has one header
pub envelope-fits : (bytes : List ℕ) (h : NetlinkHeader) → (leading header).Reads bytes h → BeginsEnvelope bytes
    → (16 ≤ h.length) × (h.length ≤ length bytes) × IsSome (kind_of_type (type_of h.message_type))
unfolding BeginsEnvelope
envelope-fits bytes h reads (k, other, least, most, kind) =
    let same : k ≡ h = other.1 ∙ sym reads.1 in
    subst (λ (x : NetlinkHeader). (16 ≤ x.length) × (x.length ≤ length bytes) × IsSome (kind_of_type (type_of x.message_type))) same (least, most, kind)

pub envelope-begins : (bytes : List ℕ) (h : NetlinkHeader) → (leading header).Reads bytes h → 16 ≤ h.length → h.length ≤ length bytes
    → IsSome (kind_of_type (type_of h.message_type)) → BeginsEnvelope bytes
unfolding BeginsEnvelope
envelope-begins bytes h reads least most kind = (h, reads, least, most, kind)

pub no-envelope : (bytes : List ℕ) (e : DecodeError) → (leading header).Wrong no_place bytes e → BeginsEnvelope bytes → ⊥
unfolding BeginsEnvelope
no-envelope bytes e wrong (h, reads, least, most, kind) = absurd (omega (arith, wrong.0, reads.0))

-- ---- a message

pub refused-none : (kind : MessageKind) (bytes : List ℕ) (e : DecodeError) → IsRefused kind bytes e
    → (m : MessageOf kind) × IsMessage (form_of kind).grammar bytes m → ⊥
unfolding IsRefused
refused-none kind bytes e (other, bad) (m, is) = fault-none (form_of kind).grammar bytes e m bad is

pub message-place : (kind : MessageKind) (bytes : List ℕ) (place : Located) (is_envelope : Bool) → IsLocated kind bytes place
    → IsTrue is_envelope ↔ BeginsEnvelope bytes → IsMessagePlace kind bytes (Message place is_envelope)
unfolding IsMessagePlace
message-place kind bytes place is_envelope located tells = (located, tells)
