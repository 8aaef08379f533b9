-- A value that is one of several variants, which a context chooses: each is read by a codec of its own, and written whatever the
-- context is.
--     Held                 what a value is written as, why it can't be, how much stands in it, and what it is seen as
--     as_list, as_bytes    attributes of a set, and bytes as they stand
--     Case                 a variant, with the codec that reads it: list_case, bytes_case
--     chosen               the codec of a case
use Rattle.std.specs.Prelude.{◌≡◌, ℕ, ◌+◌, ◌*◌, ◌≤◌, ◌<◌, List, length, Option, None}
use Rattle.std.proofs.Common.{refl, sym, ap, subst, ◌∙◌}
use Rattle.npr_base.specs.Codec.{Codec, raw}
use Rattle.npr_base.specs.Counts.{SawEach}
use Rattle.npr_base.specs.declared.attribute_set.AttributeSet.{AttributeSet}
use Rattle.npr_base.specs.declared.refusal.EmitError.{EmitError}
use Rattle.npr_base.specs.Family.{Writing, Reading}
use Rattle.npr_base.specs.Framing.{Item, IsBytes, Front, framed}
use Rattle.npr_base.specs.ListCodec.{list_of}
use Rattle.npr_base.specs.Showing.{Showing}
use Rattle.npr_base.specs.Value.{Shown, is_inside, are_bytes}

-- its bytes, the first cause inside why there are none, how many attributes stand inside, and its members or bytes
pub record Held : Type 0 where
  pub encoded : List ℕ
  pub unfit : Option EmitError
  pub count : ℕ
  pub size : ℕ
  -- what it is seen as in these bytes
  pub seen : List ℕ → Shown

abbrev pub as_list : {M : Type 0} {w : Writing M} → AttributeSet → Reading w → List M → Held
as_list set f xs = record {
  encoded = (list_of set f).encode xs;
  unfit = (list_of set f).unfit 0 xs;
  count = (list_of set f).members.count xs;
  size = length xs;
  seen = λ b. is_inside b;
}

abbrev pub as_bytes : List ℕ → Held
as_bytes bytes = record { encoded = bytes; unfit = None; count = 0; size = length bytes; seen = λ b. are_bytes bytes }

-- it is written and seen as the codec says, and its reading takes memory for such bytes alone
pub record Case {W : Type 0} (held : W → Held) : Type 1 where
  pub V : Type 0
  pub codec : Codec V
  pub made : V → W
  pub encoded : (v : V) → (held (made v)).encoded ≡ codec.encode v
  pub unfit : (kind : ℕ) (v : V) → (held (made v)).unfit ≡ codec.unfit kind v
  pub counted : (v : V) → (held (made v)).count ≡ codec.members.count v
  pub shown : (b : List ℕ) (v : V) → (held (made v)).seen b ≡ codec.showing.sees b v
  pub memory : List ℕ → Type 0

module _ {W : Type 0} (held : W → Held) where
  abbrev pub list_case : {M : Type 0} {w : Writing M} (set : AttributeSet) (f : Reading w) (made : List M → W)
      → ((xs : List M) → held (made xs) ≡ as_list set f xs) → Case held
  list_case {M} set f made is = record {
    V = List M;
    codec = list_of set f;
    made = made;
    encoded = λ xs. ap (λ (h : Held). h.encoded) (is xs);
    unfit = λ kind xs. ap (λ (h : Held). h.unfit) (is xs);
    counted = λ xs. ap (λ (h : Held). h.count) (is xs);
    shown = λ b xs. ap (λ (h : Held). h.seen b) (is xs);
    memory = λ bytes. (x : Item) × (rest : List ℕ) × Front bytes x rest;
  }

  abbrev pub bytes_case : (made : List ℕ → W) → ((bytes : List ℕ) → held (made bytes) ≡ as_bytes bytes) → Case held
  bytes_case made is = record {
    V = List ℕ;
    codec = raw;
    made = made;
    encoded = λ bytes. ap (λ (h : Held). h.encoded) (is bytes);
    unfit = λ kind bytes. ap (λ (h : Held). h.unfit) (is bytes);
    counted = λ bytes. ap (λ (h : Held). h.count) (is bytes);
    shown = λ b bytes. ap (λ (h : Held). h.seen b) (is bytes);
    memory = λ bytes. 0 < length bytes;
  }

module _ {W : Type 0} (held : W → Held) (c : Case held) where
  abbrev pub IsChosen : (c.V → Type 0) → W → Type 0
  IsChosen P x = (v : c.V) × P v × (x ≡ c.made v)

  pub chosen-one : (bytes : List ℕ) (x y : W) → IsChosen (c.codec.Reads bytes) x → IsChosen (c.codec.Reads bytes) y → x ≡ y
  chosen-one bytes x y p q = p.2 ∙ ap c.made (c.codec.one_reading bytes p.0 q.0 p.1 q.1) ∙ sym q.2

  written_as : (x : W) (v : c.V) → x ≡ c.made v → (held x).encoded ≡ c.codec.encode v
  written_as x v is = ap (λ (y : W). (held y).encoded) is ∙ c.encoded v

  pub chosen-back : (kind : ℕ) (x : W) → IsChosen c.codec.Holds x → (held x).unfit ≡ None → IsChosen (c.codec.Reads (held x).encoded) x
  chosen-back kind x p fits =
      let free : c.codec.unfit kind p.0 ≡ None = sym (ap (λ (y : W). (held y).unfit) p.2 ∙ c.unfit kind p.0) ∙ fits in
      (p.0, subst (λ (b : List ℕ). c.codec.Reads b p.0) (sym (written_as x p.0 p.2)) (c.codec.reads_back kind p.0 p.1 free), p.2)

  pub chosen-grows : (bytes : List ℕ) (x : W) → IsBytes bytes → IsChosen (c.codec.Reads bytes) x
      → 2 * framed (length (held x).encoded) ≤ 5 * (4 + length bytes)
  chosen-grows bytes x is p =
      subst (λ (b : List ℕ). 2 * framed (length b) ≤ 5 * (4 + length bytes)) (sym (written_as x p.0 p.2)) (c.codec.grows bytes p.0 is p.1)

  abbrev pub chosen_showing : Showing (λ bytes x. IsChosen (c.codec.Reads bytes) x) c.codec.Wrong
  chosen_showing = record {
    form = c.codec.showing.form;
    sees = λ bytes x. (held x).seen bytes;
    shows = λ bytes s x p q. c.codec.showing.shows bytes s q.0 p q.1 ∙ sym (ap (λ (y : W). (held y).seen bytes) q.2 ∙ c.shown bytes q.0);
    whole = λ bytes s whole p. let v = c.codec.showing.whole bytes s whole p in (c.made v.0, (v.0, v.1, refl));
    wrong = c.codec.showing.wrong;
  }

  abbrev pub chosen : Codec W
  chosen = record {
    Reads = λ bytes x. IsChosen (c.codec.Reads bytes) x;
    Wrong = c.codec.Wrong;
    encode = λ x. (held x).encoded;
    unfit = λ kind x. (held x).unfit;
    Holds = IsChosen c.codec.Holds;
    members = record {
      count = λ x. (held x).count;
      looks = c.codec.members.looks;
      bounded = c.codec.members.bounded;
      saw =
          λ bytes x old new p t.
          subst (SawEach old new) (sym (ap (λ (y : W). (held y).count) p.2 ∙ c.counted p.0)) (c.codec.members.saw bytes p.0 old new p.1 t);
    };
    one_reading = chosen-one;
    no_fault = λ at bytes x e p q. c.codec.no_fault at bytes p.0 e p.1 q;
    reads_holds = λ bytes x is p. (p.0, c.codec.reads_holds bytes p.0 is p.1, p.2);
    reads_back = chosen-back;
    grows = chosen-grows;
    showing = chosen_showing;
  }
