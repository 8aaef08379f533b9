-- Addresses as values: four bytes or sixteen, whatever the family of the message.
use Rattle.std.specs.Prelude.{◌≡◌, ◌≢◌, ℕ, ◌+◌, ◌*◌, ◌≤◌, List, length, None}
use Rattle.std.proofs.Common.{refl, sym, ap, subst, ◌∙◌, arith}
use Rattle.npr_base.specs.declared.attribute_set.At.{At}
use Rattle.npr_base.specs.declared.refusal.DecodeError.{DecodeError}
use Rattle.npr_base.specs.declared.refusal.DecodeError.TheVariants.{ValueLength}
use Rattle.npr_base.specs.declared.ip.IpAddr.{IpAddr}
use Rattle.npr_base.specs.declared.ip.IpAddr.TheVariants.{V4, V6}
use Rattle.npr_base.specs.declared.value.Form.TheVariants.{Ip as IpForm}
use Rattle.npr_base.specs.Framing.{IsBytes, framed}
use Rattle.npr_base.specs.lemmas.Codec.{framed-grows}
use Rattle.npr_base.specs.Ip.{IsIp, octets_of}
use Rattle.npr_base.specs.Showing.{Showing}
use Rattle.npr_base.specs.Value.{is_address}
use Rattle.npr_base.specs.Codec.{Codec, no_members}

-- what an address can be
abbrev pub HoldsIp : IpAddr → Type 0
HoldsIp (V4 octets) = (length octets ≡ 4) × IsBytes octets
HoldsIp (V6 octets) = (length octets ≡ 16) × IsBytes octets

pub ip-one : (bytes : List ℕ) (a b : IpAddr) → IsIp bytes a → IsIp bytes b → a ≡ b
ip-one bytes (V4 x) (V4 y) p q = ap V4 (p.1 ∙ sym q.1)
ip-one bytes (V6 x) (V6 y) p q = ap V6 (p.1 ∙ sym q.1)
ip-one bytes (V4 x) (V6 y) p q = absurd (omega (arith, p.0, q.0))
ip-one bytes (V6 x) (V4 y) p q = absurd (omega (arith, p.0, q.0))

pub ip-sound : (at : At) (bytes : List ℕ) (a : IpAddr) (e : DecodeError) → IsIp bytes a
    → (length bytes ≢ 4) × (length bytes ≢ 16) × (e ≡ ValueLength at (length bytes)) → ⊥
ip-sound at bytes (V4 x) e p q = q.0 p.0
ip-sound at bytes (V6 x) e p q = q.1 p.0

pub ip-holds : (bytes : List ℕ) (a : IpAddr) → IsBytes bytes → IsIp bytes a → HoldsIp a
ip-holds bytes (V4 x) is p = (ap length p.1 ∙ p.0, subst IsBytes (sym p.1) is)
ip-holds bytes (V6 x) is p = (ap length p.1 ∙ p.0, subst IsBytes (sym p.1) is)

pub ip-back : (a : IpAddr) → HoldsIp a → IsIp (octets_of a) a
ip-back (V4 x) h = (h.0, refl)
ip-back (V6 x) h = (h.0, refl)

pub ip-grows : (bytes : List ℕ) (a : IpAddr) → IsIp bytes a → 2 * framed (length (octets_of a)) ≤ 5 * (4 + length bytes)
ip-grows bytes (V4 x) p = framed-grows (length x) (length bytes) (omega (arith, ap length p.1))
ip-grows bytes (V6 x) p = framed-grows (length x) (length bytes) (omega (arith, ap length p.1))

abbrev pub ip_showing : Showing IsIp (λ at bytes e. (length bytes ≢ 4) × (length bytes ≢ 16) × (e ≡ ValueLength at (length bytes)))
ip_showing = record {
  form = IpForm;
  sees = λ bytes a. is_address a;
  shows = λ bytes s a p q. p.2 ∙ ap is_address (ip-one bytes p.0 a p.1 q);
  whole = λ bytes s w p. (p.0, p.1);
  wrong = λ at bytes e p. p;
}

abbrev pub ip : Codec IpAddr
ip = record {
  Reads = IsIp;
  Wrong = λ at bytes e. (length bytes ≢ 4) × (length bytes ≢ 16) × (e ≡ ValueLength at (length bytes));
  encode = octets_of;
  unfit = λ kind a. None;
  Holds = HoldsIp;
  members = no_members;
  one_reading = ip-one;
  no_fault = ip-sound;
  reads_holds = ip-holds;
  reads_back = λ kind a h f. ip-back a h;
  grows = λ bytes a is p. ip-grows bytes a p;
  showing = ip_showing;
}
