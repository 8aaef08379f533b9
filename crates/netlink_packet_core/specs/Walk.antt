-- Walks over the messages of a datagram, step by step.
use Rattle.std.specs.Prelude.{◌≡◌, ℕ, List, [], ◌∷◌, ◌++◌, map, Some, Result, Ok, Err, ◌⊎◌, Bool, ◌==◌, ◌&&◌, nat_eq}
use Rattle.std.specs.Cmp.Lexicographic.{pointwise}
use Rattle.netlink_packet_core.specs.Envelope.{Envelope, EnvelopePasses, EnvelopeStops, Tail, EnvelopeStep}
use Rattle.netlink_packet_core.specs.declared.header.NetlinkHeader.{NetlinkHeader}
use Rattle.netlink_packet_core.specs.declared.refusal.EnvelopeError.{EnvelopeError}

-- where a walk over a datagram begins
abbrev pub start : List ℕ → Tail
start datagram = record { offset = 0; bytes = datagram }

-- steps of a walk, one after the other, from what was left to what is
abbrev pub EnvelopeSteps : Tail → List (Result Envelope EnvelopeError) → Tail → Type 0
EnvelopeSteps old [] new = old ≡ new
EnvelopeSteps old (s ∷ steps) new = (more : Tail) × EnvelopeStep old (Some s) more × EnvelopeSteps more steps new

-- steps from the first byte of a datagram to the last
abbrev pub EnvelopeWalk : List ℕ → List (Result Envelope EnvelopeError) → Type 0
EnvelopeWalk datagram steps = (last : Tail) × EnvelopeSteps (start datagram) steps last × (last.bytes ≡ [])

-- one value is so, and no other
abbrev pub HasOne : {A : Type 0} → (A → Type 0) → Type 0
HasOne {A} P = (x : A) × P x × ((y : A) → P y → y ≡ x)

-- what a walk answers where it finds these messages
abbrev pub found : List Envelope → List (Result Envelope EnvelopeError)
found xs = map (λ x. Ok x) xs

-- the steps find messages up to the rest, or all those before a stop and then the fault
abbrev pub EnvelopeFinds : List ℕ → List (Result Envelope EnvelopeError) → List ℕ → List Envelope → Type 0
EnvelopeFinds datagram steps rest xs =
    ((steps ≡ found xs) × EnvelopePasses datagram xs rest)
    ⊎ ((e : EnvelopeError) × (steps ≡ found xs ++ Err e ∷ []) × EnvelopeStops datagram xs e × (rest ≡ []))

-- each field is equal
abbrev pub same_header : NetlinkHeader → NetlinkHeader → Bool
same_header a b =
    (a.length == b.length) && ((a.message_type == b.message_type)
    && ((a.flags == b.flags) && ((a.sequence_number == b.sequence_number) && (a.port_number == b.port_number))))

-- both headers and both payloads
abbrev pub same_envelope : Envelope → Envelope → Bool
same_envelope a b = same_header a.header b.header && pointwise nat_eq a.payload b.payload
