-- A refusal with all that it tells, as numbers.
use Rattle.std.specs.Prelude.{◌≡◌, ◌⊎◌, ℕ, List}
use Rattle.netlink_packet_route.specs.declared.framing.AttributeSet.{AttributeSet}
use Rattle.netlink_packet_route.specs.declared.framing.AttributeSet.TheVariants.{Geneve}
use Rattle.netlink_packet_route.specs.declared.framing.Seg6Fault.{Seg6Fault}
use Rattle.netlink_packet_route.specs.declared.framing.Seg6Fault.TheVariants.{Short, Length, Hmac, Segments}
use Rattle.netlink_packet_route.specs.declared.framing.DecodeError.{DecodeError}
use Rattle.netlink_packet_route.specs.declared.framing.DecodeError.TheVariants.{OutOfMemory, HeaderTooShort, AttributeTooShort, AttributeLength}
use Rattle.netlink_packet_route.specs.declared.framing.DecodeError.TheVariants.{NextHopTooShort, NextHopLength, ValueLength, NotUtf8, Seg6Header}
use Rattle.netlink_packet_route.specs.declared.framing.DecodeError.TheVariants.{GeneveOrder, GeneveChild, ViaFamily, Unsupported}
use Rattle.netlink_packet_route.specs.Messages.{Grammar, View, IsMessage, MessageFault}
use Rattle.npr_c.specs.Kinds.{unknown_kind}
use Rattle.npr_c.specs.Nests.{set_number}
use Rattle.npr_c.specs.Numbers.{refusal_number}
use Rattle.npr_c.specs.declared.faults.Fault.{Fault}

abbrev pub seg6_number : Seg6Fault → ℕ
seg6_number Short = 1
seg6_number Length = 2
seg6_number Hmac = 3
seg6_number Segments = 4

-- the bytes are a message
abbrev pub no_fault : Fault
no_fault = record { number = 0; family = 0; kind = 0; detail = 0; length = 0; limit = 0; offset = 0 }

-- there is no such kind
abbrev pub unknown_fault : Fault
unknown_fault = record no_fault { number = unknown_kind }

-- a refusal that tells one length, or two
abbrev pub fault_by_length : DecodeError → ℕ → ℕ → Fault
fault_by_length e length limit =
    record { number = refusal_number e; family = 0; kind = 0; detail = 0; length = length; limit = limit; offset = 0 }

-- a refusal that tells an attribute
abbrev pub fault_at : DecodeError → AttributeSet → ℕ → ℕ → Fault
fault_at e set kind length =
    record { number = refusal_number e; family = set_number set; kind = kind; detail = 0; length = length; limit = 0; offset = 0 }

-- a refusal that tells what stands in a value
abbrev pub fault_with : DecodeError → ℕ → Fault
fault_with e detail = record { number = refusal_number e; family = 0; kind = 0; detail = detail; length = 0; limit = 0; offset = 0 }

-- all that a refusal tells by itself
abbrev pub fault_of : DecodeError → Fault
fault_of OutOfMemory = fault_by_length OutOfMemory 0 0
fault_of (HeaderTooShort got want) = fault_by_length (HeaderTooShort got want) got want
fault_of (AttributeTooShort got) = fault_by_length (AttributeTooShort got) got 0
fault_of (AttributeLength length left) = fault_by_length (AttributeLength length left) length left
fault_of (NextHopTooShort got) = fault_by_length (NextHopTooShort got) got 0
fault_of (NextHopLength length left) = fault_by_length (NextHopLength length left) length left
fault_of (ValueLength at got) = fault_at (ValueLength at got) at.set at.number got
fault_of (NotUtf8 at) = fault_at (NotUtf8 at) at.set at.number 0
fault_of (Seg6Header fault) = fault_with (Seg6Header fault) (seg6_number fault)
fault_of (GeneveOrder kind) = fault_at (GeneveOrder kind) Geneve kind 0
fault_of (GeneveChild kind) = fault_at (GeneveChild kind) Geneve kind 0
fault_of (ViaFamily family) = fault_with (ViaFamily family) family
fault_of (Unsupported at) = fault_at (Unsupported at) at.set at.number 0

-- the same with a place in the bytes
abbrev pub located : DecodeError → ℕ → Fault
located e offset = record (fault_of e) { offset = offset }

-- the answer for bytes: they are a message, or what it tells is their first fault
abbrev pub IsJudged : {H A : Type 0} → Grammar H A → List ℕ → Fault → Type 0
IsJudged g bytes answer =
    ((m : View g) × IsMessage g bytes m × (answer ≡ no_fault)) ⊎ ((e : DecodeError) × (answer ≡ located e answer.offset) × MessageFault g bytes e)
