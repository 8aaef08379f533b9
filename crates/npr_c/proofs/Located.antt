-- What a fault tells is the whole refusal.
use Rattle.std.proofs.Common.{◌≡◌, ℕ, List, [], ◌∷◌, refl, sym, ap, ◌∙◌}
use Rattle.std.specs.Prelude.{slice_get, unwrap_or}
use Rattle.netlink_packet_route.specs.declared.framing.At.{At}
use Rattle.netlink_packet_route.specs.declared.framing.Seg6Fault.{Seg6Fault}
use Rattle.netlink_packet_route.specs.declared.framing.Seg6Fault.TheVariants.{Short, Length, Hmac, Segments}
use Rattle.netlink_packet_route.specs.declared.framing.DecodeError.{DecodeError}
use Rattle.netlink_packet_route.specs.declared.framing.DecodeError.TheVariants.{OutOfMemory, HeaderTooShort, AttributeTooShort, AttributeLength}
use Rattle.netlink_packet_route.specs.declared.framing.DecodeError.TheVariants.{NextHopTooShort, NextHopLength, ValueLength, NotUtf8, Seg6Header}
use Rattle.netlink_packet_route.specs.declared.framing.DecodeError.TheVariants.{GeneveOrder, GeneveChild, ViaFamily, Unsupported}
use Rattle.npr_c.proofs.NestLaws.{set-back}
use Rattle.npr_c.specs.Faults.{seg6_number, located}
use Rattle.npr_c.specs.Nests.{set_number, set_of}
use Rattle.npr_c.specs.declared.faults.Fault.{Fault}

-- the fault and the refusal that have these numbers
abbrev seg6_of : ℕ → Seg6Fault
seg6_of number = unwrap_or (slice_get (Short ∷ Short ∷ Length ∷ Hmac ∷ Segments ∷ []) number) Short

abbrev place_of : Fault → At
place_of f = record { set = set_of f.family; number = f.kind }

abbrev refusals : Fault → List DecodeError
refusals f =
    OutOfMemory ∷ OutOfMemory ∷ HeaderTooShort f.length f.limit ∷ AttributeTooShort f.length ∷ AttributeLength f.length f.limit
    ∷ NextHopTooShort f.length ∷ NextHopLength f.length f.limit ∷ ValueLength (place_of f) f.length ∷ NotUtf8 (place_of f)
    ∷ Seg6Header (seg6_of f.detail) ∷ GeneveOrder f.kind ∷ GeneveChild f.kind ∷ ViaFamily f.detail ∷ Unsupported (place_of f) ∷ []

abbrev refusal_of : Fault → DecodeError
refusal_of f = unwrap_or (slice_get (refusals f) f.number) OutOfMemory

seg6_back : (f : Seg6Fault) → seg6_of (seg6_number f) ≡ f
seg6_back Short = refl
seg6_back Length = refl
seg6_back Hmac = refl
seg6_back Segments = refl

place_back : (at : At) → record { set = set_of (set_number at.set); number = at.number } ≡ at
place_back at = λ i. record { set = set-back at.set i; number = at.number }

refusal_back : (e : DecodeError) (k : ℕ) → refusal_of (located e k) ≡ e
refusal_back OutOfMemory k = refl
refusal_back (HeaderTooShort got want) k = refl
refusal_back (AttributeTooShort got) k = refl
refusal_back (AttributeLength length left) k = refl
refusal_back (NextHopTooShort got) k = refl
refusal_back (NextHopLength length left) k = refl
refusal_back (ValueLength at got) k = ap (λ (a : At). ValueLength a got) (place_back at)
refusal_back (NotUtf8 at) k = ap (λ (a : At). NotUtf8 a) (place_back at)
refusal_back (Seg6Header fault) k = ap (λ (f : Seg6Fault). Seg6Header f) (seg6_back fault)
refusal_back (GeneveOrder kind) k = refl
refusal_back (GeneveChild kind) k = refl
refusal_back (ViaFamily family) k = refl
refusal_back (Unsupported at) k = ap (λ (a : At). Unsupported a) (place_back at)

-- two refusals that are told alike are one
pub one_refusal : (d e : DecodeError) (j k : ℕ) → located d j ≡ located e k → d ≡ e
one_refusal d e j k same = sym (refusal_back d j) ∙ ap refusal_of same ∙ refusal_back e k
