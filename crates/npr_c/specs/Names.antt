-- The names of refusals, causes and attributes by their numbers, as texts for C.
use Rattle.std.specs.Prelude.{◌≡◌, ◌⊎◌, ◌<◌, ◌≤◌, ℕ, List, [], ◌∷◌, ◌++◌, length, codes, slice_get, unwrap_or}
use Rattle.netlink_packet_route.specs.AttributeNames.{name_at}
use Rattle.netlink_packet_route.specs.Framing.{Writes}
use Rattle.npr_c.specs.Nests.{set_of}

-- the number 0 is that of none
abbrev pub refusal_names : List (List ℕ)
refusal_names =
    [] ∷ codes "OutOfMemory" ∷ codes "HeaderTooShort" ∷ codes "AttributeTooShort" ∷ codes "AttributeLength"
    ∷ codes "NextHopTooShort" ∷ codes "NextHopLength" ∷ codes "ValueLength" ∷ codes "NotUtf8" ∷ codes "Seg6Header"
    ∷ codes "GeneveOrder" ∷ codes "GeneveChild" ∷ codes "ViaFamily" ∷ codes "Unsupported"
    ∷ codes "MessageTooShort" ∷ codes "MessageLength" ∷ codes "UnknownKind" ∷ []

abbrev pub cause_names : List (List ℕ)
cause_names =
    [] ∷ codes "TooLong" ∷ codes "NextHopTooLong" ∷ codes "TooManySegments" ∷ codes "IpProtocol" ∷ codes "Total" ∷ []

-- the name at a number, and for another number an empty text
abbrev pub refusal_name : ℕ → List ℕ
refusal_name number = unwrap_or (slice_get refusal_names number) []

abbrev pub cause_name : ℕ → List ℕ
cause_name number = unwrap_or (slice_get cause_names number) []

-- that of an attribute, by the number of its set
abbrev pub attribute_name : ℕ → ℕ → List ℕ
attribute_name family number = unwrap_or (name_at (set_of family) number) []

-- the text and a zero stand at the front of the buffer, and the rest is as it was; or they have no room, and all is
abbrev pub Puts : List ℕ → List ℕ → List ℕ → Type 0
Puts old new name =
    ((length name < length old) × Writes old new (name ++ 0 ∷ []))
    ⊎ ((length old ≤ length name) × (new ≡ old))
