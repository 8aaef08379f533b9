-- A gateway of a family of its own (linux/rtnetlink.h, struct rtvia): two bytes of family, and an address.
use Rattle.std.specs.Prelude.{◌≡◌, ◌≢◌, ℕ, ◌+◌, ◌*◌, ◌<◌, ◌≤◌, ◌^◌, ◌⊎◌, List, ◌++◌, length, drop, None}
use Rattle.std.specs.Int.{w16, to_le_bytes}
use Rattle.std.proofs.Common.{refl, sym, ap, subst, ◌∙◌, arith, inl, inr, length-drop}
use Rattle.std.proofs.lemmas.Nat.{from_le_bytes-to_le_bytes_2}
use Rattle.npr_base.specs.declared.attribute_set.At.{At}
use Rattle.npr_base.specs.declared.refusal.DecodeError.{DecodeError}
use Rattle.npr_base.specs.declared.refusal.DecodeError.TheVariants.{HeaderTooShort, ValueLength, ViaFamily}
use Rattle.npr_base.specs.declared.address_family.AddressFamily.{AddressFamily}
use Rattle.npr_base.specs.declared.address_family.AddressFamily.TheVariants.{Inet, Inet6, Packet}
use Rattle.npr_base.specs.AddressFamily.{families}
use Rattle.npr_base.specs.Numbering.{IsFormed, of_IsFormed}
use Rattle.npr_base.specs.Framing.{IsBytes, framed}
use Rattle.npr_base.specs.lemmas.Codec.{framed-grows}
use Rattle.npr_base.specs.lemmas.List.{IsBytes-drop}
use Rattle.npr_base.specs.Layout.{le16_at}
use Rattle.npr_base.specs.Codec.{Codec, no_members}
use Rattle.npr_base.specs.Showing.{shows_inside}
use Rattle.npr_base.specs.declared.ip.IpAddr.{IpAddr}
use Rattle.npr_base.specs.declared.ip.IpAddr.TheVariants.{V4, V6}
use Rattle.npr_route_values.specs.declared.via.RouteVia.{RouteVia}
use Rattle.npr_route_values.specs.declared.via.RouteVia.TheVariants.{Inet as ViaInet, Inet6 as ViaInet6, Packet as ViaPacket, Other as ViaOther}

-- a gateway, without where it lies in memory
pub data Via : Type 0 where
  inet : List ℕ → Via
  inet6 : List ℕ → Via
  packet : List ℕ → Via
  other : AddressFamily → List ℕ → Via

abbrev pub via_of : RouteVia → Via
via_of (ViaInet a) = inet a
via_of (ViaInet6 a) = inet6 a
via_of (ViaPacket v) = packet v.items
via_of (ViaOther p) = other p.0 p.1.items

-- the families that have a variant of their own
pub data ViaForm : Type 0 where
  four : ViaForm
  sixteen : ViaForm
  hardware : ViaForm
  any : ViaForm

abbrev pub via_form_of : AddressFamily → ViaForm
via_form_of Inet = four
via_form_of Inet6 = sixteen
via_form_of Packet = hardware
via_form_of family = any

-- the address that follows the family
abbrev pub IsAddress : AddressFamily → ViaForm → List ℕ → Via → Type 0
IsAddress family four bytes (inet a) = (length bytes ≡ 4) × (a ≡ bytes)
IsAddress family sixteen bytes (inet6 a) = (length bytes ≡ 16) × (a ≡ bytes)
IsAddress family hardware bytes (packet a) = a ≡ bytes
IsAddress family any bytes (other f a) = (f ≡ family) × (a ≡ bytes)
IsAddress family form bytes via = ⊥

-- why there is none: `got` is the length of the address
abbrev pub NotAddress : ViaForm → At → List ℕ → DecodeError → Type 0
NotAddress four at bytes e = (length bytes ≢ 4) × (e ≡ ValueLength at (length bytes))
NotAddress sixteen at bytes e = (length bytes ≢ 16) × (e ≡ ValueLength at (length bytes))
NotAddress hardware at bytes e = ⊥
NotAddress any at bytes e = ⊥

-- a family that a byte holds, in two bytes, and an address of it
pub record IsVia (bytes : List ℕ) (via : Via) : Type 0 where
  pub long : 2 ≤ length bytes
  pub small : le16_at bytes 0 < 2 ^ 8
  pub address : IsAddress (families.of (le16_at bytes 0)) (via_form_of (families.of (le16_at bytes 0))) (drop 2 bytes) via

-- why bytes are none: too few for the family, a family above 255, or an address of a wrong length
abbrev pub NotVia : At → List ℕ → DecodeError → Type 0
NotVia at bytes e =
    ((length bytes < 2) × (e ≡ HeaderTooShort (length bytes) 2))
    ⊎ ((2 ≤ length bytes) × (2 ^ 8 ≤ le16_at bytes 0) × (e ≡ ViaFamily (le16_at bytes 0)))
    ⊎ ((2 ≤ length bytes) × (le16_at bytes 0 < 2 ^ 8) × NotAddress (via_form_of (families.of (le16_at bytes 0))) at (drop 2 bytes) e)

-- the bytes that are written
abbrev pub via_bytes : Via → List ℕ
via_bytes (inet a) = to_le_bytes w16 2 ++ a
via_bytes (inet6 a) = to_le_bytes w16 10 ++ a
via_bytes (packet a) = to_le_bytes w16 17 ++ a
via_bytes (other family a) = to_le_bytes w16 (families.number family) ++ a

-- what can be read: another family has no variant of its own
pub record IsOtherFamily (family : AddressFamily) : Type 0 where
  pub small : families.number family < 2 ^ 8
  pub formed : IsFormed families family
  pub alone : via_form_of family ≡ any

abbrev pub HoldsVia : Via → Type 0
HoldsVia (inet a) = (length a ≡ 4) × IsBytes a
HoldsVia (inet6 a) = (length a ≡ 16) × IsBytes a
HoldsVia (packet a) = IsBytes a
HoldsVia (other family a) = IsOtherFamily family × IsBytes a

pub gateway-one : (family : AddressFamily) (form : ViaForm) (bytes : List ℕ) (v w : Via) → IsAddress family form bytes v → IsAddress family form bytes w
    → v ≡ w
gateway-one family four bytes (inet a) (inet b) p q = ap inet (p.1 ∙ sym q.1)
gateway-one family sixteen bytes (inet6 a) (inet6 b) p q = ap inet6 (p.1 ∙ sym q.1)
gateway-one family hardware bytes (packet a) (packet b) p q = ap packet (p ∙ sym q)
gateway-one family any bytes (other f a) (other g b) p q = λ i. other ((p.0 ∙ sym q.0) i) ((p.1 ∙ sym q.1) i)
gateway-one family four bytes (inet a) w p q = absurd q
gateway-one family sixteen bytes (inet6 a) w p q = absurd q
gateway-one family hardware bytes (packet a) w p q = absurd q
gateway-one family any bytes (other f a) w p q = absurd q
gateway-one family form bytes v w p q = absurd p

pub gateway-sound : (family : AddressFamily) (form : ViaForm) (at : At) (bytes : List ℕ) (v : Via) (e : DecodeError) → IsAddress family form bytes v
    → NotAddress form at bytes e → ⊥
gateway-sound family four at bytes (inet a) e p q = q.0 p.0
gateway-sound family sixteen at bytes (inet6 a) e p q = q.0 p.0
gateway-sound family hardware at bytes v e p q = q
gateway-sound family any at bytes v e p q = q
gateway-sound family form at bytes v e p q = absurd p

pub gateway-holds : (n : ℕ) (form : ViaForm) → form ≡ via_form_of (families.of n) → n < 2 ^ 8 → (bytes : List ℕ) (v : Via) → IsBytes bytes
    → IsAddress (families.of n) form bytes v → HoldsVia v
gateway-holds n four e lt bytes (inet a) is p = (ap length p.1 ∙ p.0, subst IsBytes (sym p.1) is)
gateway-holds n sixteen e lt bytes (inet6 a) is p = (ap length p.1 ∙ p.0, subst IsBytes (sym p.1) is)
gateway-holds n hardware e lt bytes (packet a) is p = subst IsBytes (sym p) is
gateway-holds n any e lt bytes (other f a) is p =
    let proper : IsOtherFamily (families.of n) = record { small = omega (arith, families.back n); formed = of_IsFormed families n; alone = sym e } in
    (subst IsOtherFamily (sym p.0) proper, subst IsBytes (sym p.1) is)
gateway-holds n form e lt bytes v is p = absurd p

pub gateway-grows : (family : AddressFamily) (form : ViaForm) (bytes : List ℕ) (v : Via) → 2 ≤ length bytes → IsAddress family form (drop 2 bytes) v
    → length (via_bytes v) ≤ length bytes
gateway-grows family four bytes (inet a) le p = omega (arith, ap length p.1, length-drop 2 bytes)
gateway-grows family sixteen bytes (inet6 a) le p = omega (arith, ap length p.1, length-drop 2 bytes)
gateway-grows family hardware bytes (packet a) le p = omega (arith, ap length p, length-drop 2 bytes)
gateway-grows family any bytes (other f a) le p = omega (arith, ap length p.1, length-drop 2 bytes)
gateway-grows family form bytes v le p = absurd p

pub via-grows : (bytes : List ℕ) (v : Via) → IsVia bytes v → 2 * framed (length (via_bytes v)) ≤ 5 * (4 + length bytes)
via-grows bytes v p =
    framed-grows (length (via_bytes v)) (length bytes)
    (omega (arith, gateway-grows (families.of (le16_at bytes 0)) (via_form_of (families.of (le16_at bytes 0))) bytes v p.long p.address))

pub via-sound : (at : At) (bytes : List ℕ) (v : Via) (e : DecodeError) → IsVia bytes v → NotVia at bytes e → ⊥
via-sound at bytes v e p (inl q) = absurd (omega (arith, p.long, q.0))
via-sound at bytes v e p (inr (inl q)) = absurd (omega (arith, p.small, q.1))
via-sound at bytes v e p (inr (inr q)) =
    gateway-sound (families.of (le16_at bytes 0)) (via_form_of (families.of (le16_at bytes 0))) at (drop 2 bytes) v e p.address q.2

pub via-back : (v : Via) → HoldsVia v → IsVia (via_bytes v) v
via-back (inet a) h = record { long = omega arith; small = omega arith; address = (h.0, refl) }
via-back (inet6 a) h = record { long = omega arith; small = omega arith; address = (h.0, refl) }
via-back (packet a) h = record { long = omega arith; small = omega arith; address = refl }
via-back (other f a) h =
    let n : le16_at (via_bytes (other f a)) 0 ≡ families.number f = from_le_bytes-to_le_bytes_2 (families.number f) (omega (arith, h.0.small)) in
    let family : families.of (le16_at (via_bytes (other f a)) 0) ≡ f = ap families.of n ∙ sym h.0.formed in
    record {
      long = omega arith;
      small = omega (arith, n, h.0.small);
      address = rw (family, h.0.alone) (refl, refl);
    }

abbrev pub via_value : Codec Via
via_value = record {
  Reads = IsVia;
  Wrong = NotVia;
  encode = via_bytes;
  unfit = λ kind v. None;
  Holds = HoldsVia;
  members = no_members;
  one_reading =
      λ bytes v w p q. gateway-one (families.of (le16_at bytes 0)) (via_form_of (families.of (le16_at bytes 0))) (drop 2 bytes) v w p.address q.address;
  no_fault = via-sound;
  reads_holds =
      λ bytes v is p. gateway-holds (le16_at bytes 0) (via_form_of (families.of (le16_at bytes 0))) refl p.small (drop 2 bytes) v
      (IsBytes-drop 2 bytes is) p.address;
  reads_back = λ kind v h fits. via-back v h;
  grows = λ bytes v is p. via-grows bytes v p;
  showing = shows_inside;
}

-- the gateway that an address of IP is
abbrev pub via_of_ip : IpAddr → RouteVia
via_of_ip (V4 a) = ViaInet a
via_of_ip (V6 a) = ViaInet6 a
