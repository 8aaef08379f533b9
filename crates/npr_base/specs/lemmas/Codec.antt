-- The laws of values of fixed size and of bytes as they stand.
use Rattle.std.specs.Prelude.{◌≢◌}
use Rattle.std.proofs.Common.{◌≡◌, ℕ, ◌+◌, ◌*◌, ◌<◌, ◌≤◌, List, length, take, refl, sym, ap, subst, ◌∙◌, arith, length-take}
use Rattle.std.proofs.lemmas.List.{take_all}
use Rattle.npr_base.specs.declared.attribute_set.At.{At}
use Rattle.npr_base.specs.declared.refusal.DecodeError.{DecodeError}
use Rattle.npr_base.specs.declared.refusal.DecodeError.TheVariants.{ValueLength, HeaderTooShort}
use Rattle.npr_base.specs.declared.value.Form.TheVariants.{Leading}
use Rattle.npr_base.specs.Framing.{IsBytes, framed}
use Rattle.npr_base.specs.Layout.{Layout}
use Rattle.npr_base.specs.lemmas.List.{IsBytes-take}
use Rattle.npr_base.specs.Showing.{Showing}
use Rattle.npr_base.specs.Value.{is_structure}

-- padding is at most three bytes
pub framed-grows : (n m : ℕ) → n ≤ m + 1 → 2 * framed n ≤ 5 * (4 + m)
framed-grows n m le = omega arith

module _ {V : Type 0} (L : Layout V) where
  pub exactly-one : (bytes : List ℕ) (x y : V) → (length bytes ≡ L.size) × (x ≡ L.decode bytes) → (length bytes ≡ L.size) × (y ≡ L.decode bytes) → x ≡ y
  exactly-one bytes x y p q = p.1 ∙ sym q.1

  pub exactly-sound : (at : At) (bytes : List ℕ) (x : V) (e : DecodeError) → (length bytes ≡ L.size) × (x ≡ L.decode bytes)
      → (length bytes ≢ L.size) × (e ≡ ValueLength at (length bytes)) → ⊥
  exactly-sound at bytes x e p q = q.0 p.0

  pub exactly-holds : (bytes : List ℕ) (x : V) → IsBytes bytes → (length bytes ≡ L.size) × (x ≡ L.decode bytes) → L.Holds x
  exactly-holds bytes x is p = subst L.Holds (sym p.1) (L.Holds-decode bytes is p.0)

  pub exactly-back : (x : V) → L.Holds x → (length (L.encode x) ≡ L.size) × (x ≡ L.decode (L.encode x))
  exactly-back x h = (L.length-encode x h, sym (L.decode-encode x h))

  pub exactly-grows : (bytes : List ℕ) (x : V) → IsBytes bytes → (length bytes ≡ L.size) × (x ≡ L.decode bytes)
      → 2 * framed (length (L.encode x)) ≤ 5 * (4 + length bytes)
  exactly-grows bytes x is p = framed-grows (length (L.encode x)) (length bytes) (omega (arith, L.length-encode x (exactly-holds bytes x is p), p.0))

  pub leading-one : (bytes : List ℕ) (x y : V) → (L.size ≤ length bytes) × (x ≡ L.decode (take L.size bytes))
      → (L.size ≤ length bytes) × (y ≡ L.decode (take L.size bytes)) → x ≡ y
  leading-one bytes x y p q = p.1 ∙ sym q.1

  pub leading-sound : (at : At) (bytes : List ℕ) (x : V) (e : DecodeError) → (L.size ≤ length bytes) × (x ≡ L.decode (take L.size bytes))
      → (length bytes < L.size) × (e ≡ HeaderTooShort (length bytes) L.size) → ⊥
  leading-sound at bytes x e p q = absurd (omega (arith, p.0, q.0))

  pub leading-holds : (bytes : List ℕ) (x : V) → IsBytes bytes → (L.size ≤ length bytes) × (x ≡ L.decode (take L.size bytes)) → L.Holds x
  leading-holds bytes x is p =
      subst L.Holds (sym p.1) (L.Holds-decode (take L.size bytes) (IsBytes-take L.size bytes is) (omega (arith, p.0, length-take L.size bytes)))

  pub leading-back : (x : V) → L.Holds x → (L.size ≤ length (L.encode x)) × (x ≡ L.decode (take L.size (L.encode x)))
  leading-back x h =
      let len = L.length-encode x h in
      (omega (arith, len), sym (ap L.decode (take_all L.size (L.encode x) (omega (arith, len))) ∙ L.decode-encode x h))

  pub leading-grows : (bytes : List ℕ) (x : V) → IsBytes bytes → (L.size ≤ length bytes) × (x ≡ L.decode (take L.size bytes))
      → 2 * framed (length (L.encode x)) ≤ 5 * (4 + length bytes)
  leading-grows bytes x is p = framed-grows (length (L.encode x)) (length bytes) (omega (arith, L.length-encode x (leading-holds bytes x is p), p.0))

  abbrev pub exactly-showing : Showing (λ bytes (x : V). (length bytes ≡ L.size) × (x ≡ L.decode bytes))
      (λ at bytes e. (length bytes ≢ L.size) × (e ≡ ValueLength at (length bytes)))
  exactly-showing = record {
    form = L.form;
    sees = L.sees;
    shows = λ bytes s x p q. (L.shows bytes s p).1 ∙ ap (L.sees bytes) (sym q.1);
    whole = λ bytes s w p. (L.decode bytes, ((L.shows bytes s p).0, refl));
    wrong = L.misshown;
  }

  -- a structure, whose bytes are those in front
  abbrev pub leading-showing : Showing (λ bytes (x : V). (L.size ≤ length bytes) × (x ≡ L.decode (take L.size bytes)))
      (λ at bytes e. (length bytes < L.size) × (e ≡ HeaderTooShort (length bytes) L.size))
  leading-showing = record {
    form = Leading L.size;
    sees = λ bytes x. is_structure (take L.size bytes);
    shows = λ bytes s x p q. p.1;
    whole = λ bytes s w p. (L.decode (take L.size bytes), (p.0, refl));
    wrong = λ at bytes e p. p;
  }

pub raw-grows : (bytes x : List ℕ) → IsBytes bytes → x ≡ bytes → 2 * framed (length x) ≤ 5 * (4 + length bytes)
raw-grows bytes x is p = framed-grows (length x) (length bytes) (omega (arith, ap length p))
