-- A flag as a value: true is written without bytes, and false as a byte of 0.
use Rattle.std.specs.Prelude.{◌≡◌, ℕ, ◌+◌, ◌*◌, ◌≤◌, Bool, true, false, List, [], ◌∷◌, length, None, if◌then◌else◌}
use Rattle.std.proofs.Common.{refl, sym, ap, ◌∙◌, arith, inl, inr}
use Rattle.npr_base.specs.Codec.{Codec, no_members}
use Rattle.npr_base.specs.declared.attribute_set.At.{At}
use Rattle.npr_base.specs.declared.refusal.DecodeError.{DecodeError}
use Rattle.npr_base.specs.declared.refusal.DecodeError.TheVariants.{ValueLength}
use Rattle.npr_base.specs.declared.value.Form.TheVariants.{Flag}
use Rattle.npr_base.specs.Framing.{framed}
use Rattle.npr_base.specs.Showing.{Showing}
use Rattle.npr_base.specs.Value.{is_truth}
use Rattle.npr_base.specs.Widths.{IsFlag, IsNoFlag}

abbrev pub flag_bytes : Bool → List ℕ
flag_bytes b = if b then [] else 0 ∷ []

pub flag-one : (bytes : List ℕ) (x y : Bool) → IsFlag bytes x → IsFlag bytes y → x ≡ y
flag-one bytes x y (inl p) (inl q) = p.1 ∙ sym q.1
flag-one bytes x y (inl p) (inr q) = absurd (omega (arith, p.0, q.0))
flag-one bytes x y (inr p) (inl q) = absurd (omega (arith, p.0, q.0))
flag-one bytes x y (inr p) (inr q) = p.1 ∙ sym q.1

pub flag-sound : (at : At) (bytes : List ℕ) (x : Bool) (e : DecodeError) → IsFlag bytes x → IsNoFlag bytes × (e ≡ ValueLength at (length bytes)) → ⊥
flag-sound at bytes x e (inl p) q = q.0.0 p.0
flag-sound at bytes x e (inr p) q = q.0.1 p.0

pub flag-back : (x : Bool) → IsFlag (flag_bytes x) x
flag-back true = inl (refl, refl)
flag-back false = inr (refl, refl)

pub flag-grows : (bytes : List ℕ) (x : Bool) → 2 * framed (length (flag_bytes x)) ≤ 5 * (4 + length bytes)
flag-grows bytes true = omega arith
flag-grows bytes false = omega arith

abbrev pub flag_showing : Showing IsFlag (λ at bytes e. IsNoFlag bytes × (e ≡ ValueLength at (length bytes)))
flag_showing = record {
  form = Flag;
  sees = λ bytes b. is_truth b;
  shows = λ bytes s x p q. p.2 ∙ ap is_truth (flag-one bytes p.0 x p.1 q);
  whole = λ bytes s w p. (p.0, p.1);
  wrong = λ at bytes e p. p;
}

abbrev pub flag : Codec Bool
flag = record {
  Reads = IsFlag;
  Wrong = λ at bytes e. IsNoFlag bytes × (e ≡ ValueLength at (length bytes));
  encode = flag_bytes;
  unfit = λ kind x. None;
  Holds = λ x. Unit {0};
  members = no_members;
  one_reading = flag-one;
  no_fault = flag-sound;
  reads_holds = λ bytes x is p. tt;
  reads_back = λ kind x h f. flag-back x;
  grows = λ bytes x is p. flag-grows bytes x;
  showing = flag_showing;
}
