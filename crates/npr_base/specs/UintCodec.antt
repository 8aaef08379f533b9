-- A number of four bytes or of eight as a value: it is written in four where they hold it.
use Rattle.std.specs.Prelude.{nat_lt, if◌then◌else◌}
use Rattle.std.proofs.Common.{◌≡◌, ℕ, ◌+◌, ◌*◌, ◌^◌, ◌<◌, ◌≤◌, Bool, true, false, List, length, None, refl, sym, ap, ◌∙◌, arith, inl, inr}
use Rattle.std.proofs.lemmas.Bool.Decides.{nat_tests}
use Rattle.npr_base.specs.Codec.{Codec, no_members}
use Rattle.npr_base.specs.declared.attribute_set.At.{At}
use Rattle.npr_base.specs.declared.refusal.DecodeError.{DecodeError}
use Rattle.npr_base.specs.declared.refusal.DecodeError.TheVariants.{ValueLength}
use Rattle.npr_base.specs.Framing.{IsBytes, framed}
use Rattle.npr_base.specs.Layout.{le32, le64}
use Rattle.npr_base.specs.Showing.{Showing}
use Rattle.npr_base.specs.Value.{is_number}
use Rattle.npr_base.specs.Widths.{IsUint, IsNoUint}
use Rattle.npr_base.specs.declared.value.Form.TheVariants.{Uint}

-- four bytes where they hold it
abbrev pub uint_bytes : ℕ → List ℕ
uint_bytes n = if nat_lt n (2 ^ 32) then le32.encode n else le64.encode n

pub uint-one : (bytes : List ℕ) (x y : ℕ) → IsUint bytes x → IsUint bytes y → x ≡ y
uint-one bytes x y (inl p) (inl q) = p.1 ∙ sym q.1
uint-one bytes x y (inl p) (inr q) = absurd (omega (arith, p.0, q.0))
uint-one bytes x y (inr p) (inl q) = absurd (omega (arith, p.0, q.0))
uint-one bytes x y (inr p) (inr q) = p.1 ∙ sym q.1

pub uint-sound : (at : At) (bytes : List ℕ) (x : ℕ) (e : DecodeError) → IsUint bytes x
    → IsNoUint bytes × (e ≡ ValueLength at (length bytes)) → ⊥
uint-sound at bytes x e (inl p) q = q.0.0 p.0
uint-sound at bytes x e (inr p) q = q.0.1 p.0

pub uint-holds : (bytes : List ℕ) (x : ℕ) → IsBytes bytes → IsUint bytes x → x < 2 ^ 64
uint-holds bytes x is (inl p) = omega (arith, p.1, le32.Holds-decode bytes is p.0)
uint-holds bytes x is (inr p) = omega (arith, p.1, le64.Holds-decode bytes is p.0)

back-if : (b : Bool) (x : ℕ) → (b ≡ true → x < 2 ^ 32) → x < 2 ^ 64 → IsUint (if b then le32.encode x else le64.encode x) x
back-if true x low h = inl (refl, sym (le32.decode-encode x (low refl)))
back-if false x low h = inr (refl, sym (le64.decode-encode x h))

below : (x m : ℕ) → nat_lt x m ≡ true → x < m
below x m e = grind (arith, nat_tests)

pub uint-back : (x : ℕ) → x < 2 ^ 64 → IsUint (uint_bytes x) x
uint-back x h = back-if (nat_lt x (2 ^ 32)) x (below x (2 ^ 32)) h

-- of eight bytes it may be written in four
grows-if : (b : Bool) (x n : ℕ) → (b ≡ false → n ≡ 8) → 4 ≤ n → 2 * framed (length (if b then le32.encode x else le64.encode x)) ≤ 5 * (4 + n)
grows-if true x n eight least = omega (arith, least)
grows-if false x n eight least = omega (arith, eight refl)

high : (x m : ℕ) → nat_lt x m ≡ false → x < m → ⊥
high x m e = grind (arith, nat_tests)

pub uint-grows : (bytes : List ℕ) (x : ℕ) → IsBytes bytes → IsUint bytes x → 2 * framed (length (uint_bytes x)) ≤ 5 * (4 + length bytes)
uint-grows bytes x is (inl p) =
    let low : x < 2 ^ 32 = omega (arith, p.1, le32.Holds-decode bytes is p.0) in
    grows-if (nat_lt x (2 ^ 32)) x (length bytes) (λ e. absurd (high x (2 ^ 32) e low)) (omega (arith, p.0))
uint-grows bytes x is (inr p) = grows-if (nat_lt x (2 ^ 32)) x (length bytes) (λ e. p.0) (omega (arith, p.0))

abbrev pub uint_showing : Showing IsUint (λ at bytes e. IsNoUint bytes × (e ≡ ValueLength at (length bytes)))
uint_showing = record {
  form = Uint;
  sees = λ bytes n. is_number 8 n;
  shows = λ bytes s x p q. p.2 ∙ ap (is_number 8) (uint-one bytes p.0 x p.1 q);
  whole = λ bytes s w p. (p.0, p.1);
  wrong = λ at bytes e p. p;
}

abbrev pub uint : Codec ℕ
uint = record {
  Reads = IsUint;
  Wrong = λ at bytes e. IsNoUint bytes × (e ≡ ValueLength at (length bytes));
  encode = uint_bytes;
  unfit = λ kind x. None;
  Holds = λ x. x < 2 ^ 64;
  members = no_members;
  one_reading = uint-one;
  no_fault = uint-sound;
  reads_holds = uint-holds;
  reads_back = λ kind x h f. uint-back x h;
  grows = uint-grows;
  showing = uint_showing;
}
