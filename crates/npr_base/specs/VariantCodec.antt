-- A value that is one of several variants, read by the codec of one of them.
use Rattle.std.specs.Prelude.{◌≡◌, ℕ, ◌+◌, ◌*◌, ◌≤◌, List, length, None}
use Rattle.std.proofs.Common.{refl, sym, ap, subst, ◌∙◌}
use Rattle.npr_base.specs.Framing.{IsBytes, framed}
use Rattle.npr_base.specs.Codec.{Codec, no_members}
use Rattle.npr_base.specs.Showing.{Showing}
use Rattle.npr_base.specs.Value.{Shown}

-- the bytes are read by C, and the value is that variant; each variant is written by `bytes_of`, and seen by `view`
module _ {V W : Type 0} (C : Codec V) (made : V → W) (bytes_of : W → List ℕ) (view : List ℕ → W → Shown) (same : (v : V) → bytes_of (made v) ≡ C.encode v)
    (free : (v : V) → C.unfit 0 v ≡ None) (shown : (bytes : List ℕ) (v : V) → view bytes (made v) ≡ C.showing.sees bytes v) where
  pub variant-one : (bytes : List ℕ) (x y : W) → (v : V) × C.Reads bytes v × (x ≡ made v) → (w : V) × C.Reads bytes w × (y ≡ made w) → x ≡ y
  variant-one bytes x y p q = p.2 ∙ ap made (C.one_reading bytes p.0 q.0 p.1 q.1) ∙ sym q.2

  pub variant-back : (x : W) → (v : V) × C.Holds v × (x ≡ made v) → (v : V) × C.Reads (bytes_of x) v × (x ≡ made v)
  variant-back x p =
      let is : bytes_of x ≡ C.encode p.0 = ap bytes_of p.2 ∙ same p.0 in
      (p.0, subst (λ (b : List ℕ). C.Reads b p.0) (sym is) (C.reads_back 0 p.0 p.1 (free p.0)), p.2)

  pub variant-grows : (bytes : List ℕ) (x : W) → IsBytes bytes → (v : V) × C.Reads bytes v × (x ≡ made v)
      → 2 * framed (length (bytes_of x)) ≤ 5 * (4 + length bytes)
  variant-grows bytes x is p =
      let written : bytes_of x ≡ C.encode p.0 = ap bytes_of p.2 ∙ same p.0 in
      subst (λ (b : List ℕ). 2 * framed (length b) ≤ 5 * (4 + length bytes)) (sym written) (C.grows bytes p.0 is p.1)

  abbrev pub variant-showing : Showing (λ bytes x. (v : V) × C.Reads bytes v × (x ≡ made v)) C.Wrong
  variant-showing = record {
    form = C.showing.form;
    sees = view;
    shows = λ bytes s x p q. C.showing.shows bytes s q.0 p q.1 ∙ sym (ap (view bytes) q.2 ∙ shown bytes q.0);
    whole = λ bytes s whole p. let v = C.showing.whole bytes s whole p in (made v.0, (v.0, v.1, refl));
    wrong = C.showing.wrong;
  }

  abbrev pub variant : Codec W
  variant = record {
    Reads = λ bytes x. (v : V) × C.Reads bytes v × (x ≡ made v);
    Wrong = C.Wrong;
    encode = bytes_of;
    unfit = λ kind x. None;
    Holds = λ x. (v : V) × C.Holds v × (x ≡ made v);
    members = no_members;
    one_reading = variant-one;
    no_fault = λ at bytes x e p q. C.no_fault at bytes p.0 e p.1 q;
    reads_holds = λ bytes x is p. (p.0, C.reads_holds bytes p.0 is p.1, p.2);
    reads_back = λ kind x p fits. variant-back x p;
    grows = variant-grows;
    showing = variant-showing;
  }

-- codecs of one type that write alike, as one over their choice: what is written doesn't wait for it
module _ {F W : Type 0} (by : F → Codec W) (bytes_of : W → List ℕ) (alike : (f : F) → ((by f).encode ≡ bytes_of) × ((x : W) → (by f).unfit 0 x ≡ None)) where
  pub alike-back : (f : F) (x : W) → (by f).Holds x → (by f).Reads (bytes_of x) x
  alike-back f x h = subst (λ (w : W → List ℕ). (by f).Reads (w x) x) (alike f).0 ((by f).reads_back 0 x h ((alike f).1 x))

  pub alike-grows : (f : F) (bytes : List ℕ) (x : W) → IsBytes bytes → (by f).Reads bytes x → 2 * framed (length (bytes_of x)) ≤ 5 * (4 + length bytes)
  alike-grows f bytes x is p = subst (λ (w : W → List ℕ). 2 * framed (length (w x)) ≤ 5 * (4 + length bytes)) (alike f).0 ((by f).grows bytes x is p)

  abbrev pub written_alike : F → Codec W
  written_alike f = record {
    Reads = (by f).Reads;
    Wrong = (by f).Wrong;
    encode = bytes_of;
    unfit = λ kind x. None;
    Holds = (by f).Holds;
    members = no_members;
    one_reading = (by f).one_reading;
    no_fault = (by f).no_fault;
    reads_holds = (by f).reads_holds;
    reads_back = λ kind x h fits. alike-back f x h;
    grows = alike-grows f;
    showing = (by f).showing;
  }
