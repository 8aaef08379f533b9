-- What stands behind the header of an envelope (linux/netlink.h, NLMSG_*, struct nlmsgerr).
use Rattle.std.specs.Prelude.{◌≡◌, ◌≢◌, ℕ, ℤ, ◌<◌, ◌≤◌, ◌==◌, pos, FitsSigned, List, [], ◌∷◌, ◌++◌, length, take, drop, Option, Some, None}
use Rattle.std.specs.Bool.{MatchBool}
use Rattle.std.specs.Int.{w32}
use Rattle.std.proofs.Common.{refl, arith}
use Rattle.std.specs.declared.num.NonZeroI32.{NonZeroI32}
use Rattle.npr_base.specs.Framing.{IsBytes}
use Rattle.npr_base.specs.Layout.{signed32}
use Rattle.npr_base.specs.declared.refusal.DecodeError.{DecodeError}
use Rattle.npr_base.specs.declared.refusal.DecodeError.TheVariants.{HeaderTooShort}
use Rattle.npr_base.specs.declared.refusal.EmitError.{EmitError}
use Rattle.netlink_packet_core.specs.Protocol.{Protocol}
use Rattle.netlink_packet_core.specs.declared.payload.DoneMessage.{DoneMessage}
use Rattle.netlink_packet_core.specs.declared.payload.ErrorMessage.{ErrorMessage}
use Rattle.netlink_packet_core.specs.declared.payload.NetlinkPayload.{NetlinkPayload}
use Rattle.netlink_packet_core.specs.declared.payload.NetlinkPayload.TheVariants.{Done, Error, Noop, Overrun, InnerMessage}

-- what it is, without where it lies in memory: of an error the code, which is 0 in an acknowledgement, and the bytes behind it
pub data Payload (M : Type 0) : Type 0 where
  noop : Payload M
  error : ℤ → List ℕ → Payload M
  done : ℤ → List ℕ → Payload M
  overrun : List ℕ → Payload M
  inner : M → Payload M

-- a code that isn't 0, or none
abbrev pub code_of : Option NonZeroI32 → ℤ
code_of (Some n) = n.value
code_of None = pos 0

-- an error and an end by themselves
abbrev pub error_of : ErrorMessage → ℤ × List ℕ
error_of m = (code_of m.code, m.header.items)

abbrev pub done_of : DoneMessage → ℤ × List ℕ
done_of m = (m.code, m.extended_ack.items)

abbrev pub payload_of : {I M : Type 0} → (I → M) → NetlinkPayload I → Payload M
payload_of meaning (Done m) = done m.code m.extended_ack.items
payload_of meaning (Error m) = error (code_of m.code) m.header.items
payload_of meaning Noop = noop
payload_of meaning (Overrun bytes) = overrun bytes.items
payload_of meaning (InnerMessage m) = inner (meaning m)

-- a code of four bytes, and the bytes behind it
abbrev pub coded : ℤ → List ℕ → List ℕ
coded code more = signed32.encode code ++ more

-- the type, the bytes, and why there are none
abbrev pub payload_type : {M : Type 0} → Protocol M → Payload M → ℕ
payload_type P noop = 1
payload_type P (error code more) = 2
payload_type P (done code more) = 3
payload_type P (overrun bytes) = 4
payload_type P (inner m) = P.number m

abbrev pub payload_bytes : {M : Type 0} → Protocol M → Payload M → List ℕ
payload_bytes P noop = []
payload_bytes P (error code more) = coded code more
payload_bytes P (done code more) = coded code more
payload_bytes P (overrun bytes) = bytes
payload_bytes P (inner m) = P.encode m

abbrev pub payload_unfit : {M : Type 0} → Protocol M → Payload M → Option EmitError
payload_unfit P noop = None
payload_unfit P (error code more) = None
payload_unfit P (done code more) = None
payload_unfit P (overrun bytes) = None
payload_unfit P (inner m) = P.unfit m

-- the bytes are a code and what stands behind it
pub record IsCoded (bytes : List ℕ) (code : ℤ) (more : List ℕ) : Type 0 where
  pub long : 4 ≤ length bytes
  pub code_is : code ≡ signed32.decode (take 4 bytes)
  pub more_is : more ≡ drop 4 bytes

-- or too few
abbrev pub IsUncoded : List ℕ → DecodeError → Type 0
IsUncoded bytes e = (length bytes < 4) × (e ≡ HeaderTooShort (length bytes) 4)

-- what stands behind the header of an end: without bytes it is the code 0, as kernels may write it
abbrev pub end_of : List ℕ → List ℕ
end_of [] = coded (pos 0) []
end_of (byte ∷ bytes) = byte ∷ bytes

pub end-some : (bytes : List ℕ) → 0 < length bytes → end_of bytes ≡ bytes
end-some [] some = absurd (omega (arith, some))
end-some (byte ∷ bytes) some = refl

-- what bytes under a type mean: the protocol says it of each type but the four of the envelope
abbrev pub PayloadReads : {M : Type 0} → Protocol M → ℕ → List ℕ → Payload M → Type 0
PayloadReads {M} P kind bytes x =
    MatchBool (kind == 1) (x ≡ noop)
    (MatchBool (kind == 2) ((code : ℤ) × (more : List ℕ) × IsCoded bytes code more × (x ≡ error code more))
    (MatchBool (kind == 3) ((code : ℤ) × (more : List ℕ) × IsCoded (end_of bytes) code more × (x ≡ done code more))
    (MatchBool (kind == 4) (x ≡ overrun bytes)
    ((m : M) × P.Reads kind bytes m × (x ≡ inner m)))))

-- why they mean nothing
abbrev pub PayloadFault : {M : Type 0} → Protocol M → ℕ → List ℕ → DecodeError → Type 0
PayloadFault P kind bytes e =
    MatchBool (kind == 1) ⊥
    (MatchBool (kind == 2) (IsUncoded bytes e)
    (MatchBool (kind == 3) (IsUncoded (end_of bytes) e)
    (MatchBool (kind == 4) ⊥
    (P.Faulty kind bytes e))))

-- bytes under a type whose reading may want memory: what stands behind a code is kept, and lost data; of any other type the
-- protocol says it
abbrev pub PayloadGrows : (ℕ → List ℕ → Type 0) → ℕ → List ℕ → Type 0
PayloadGrows grows kind bytes =
    MatchBool (kind == 1) ⊥
    (MatchBool (kind == 2) (4 < length bytes)
    (MatchBool (kind == 3) (4 < length bytes)
    (MatchBool (kind == 4) (0 < length bytes)
    (grows kind bytes))))

-- and what a copy may want it for
abbrev pub CopyGrows : {M : Type 0} → (M → Type 0) → Payload M → Type 0
CopyGrows grows noop = ⊥
CopyGrows grows (error code more) = 0 < length more
CopyGrows grows (done code more) = 0 < length more
CopyGrows grows (overrun bytes) = 0 < length bytes
CopyGrows grows (inner m) = grows m

-- a type of the protocol
pub record IsInner (kind : ℕ) : Type 0 where
  pub noop : kind ≢ 1
  pub error : kind ≢ 2
  pub done : kind ≢ 3
  pub overrun : kind ≢ 4

-- what can be read
abbrev pub IsCoherentPayload : {M : Type 0} → Protocol M → Payload M → Type 0
IsCoherentPayload P noop = Unit {0}
IsCoherentPayload P (error code more) = FitsSigned w32 code × IsBytes more
IsCoherentPayload P (done code more) = FitsSigned w32 code × IsBytes more
IsCoherentPayload P (overrun bytes) = IsBytes bytes
IsCoherentPayload P (inner m) = P.Coherent m × IsInner (P.number m)
