-- Attributes of one number, which a context reads in one of several ways, each written in its own place.
--     valued      a value under a codec
--     whole       the attribute as it stands, with its kind
use Rattle.std.specs.Prelude.{◌≡◌, ℕ, ◌+◌, ◌*◌, ◌≤◌, ◌<◌, ◌^◌, length, None}
use Rattle.std.proofs.Common.{refl, sym, ap, subst, ◌∙◌, arith}
use Rattle.npr_base.specs.Codec.{Codec}
use Rattle.npr_base.specs.lemmas.Codec.{framed-grows}
use Rattle.npr_base.specs.Counts.{Counts, SawEach}
use Rattle.npr_base.specs.Family.{Reading, written_by, unfit_by}
use Rattle.npr_base.specs.lemmas.Fit.{unfit_of-none}
use Rattle.npr_base.specs.Framing.{Item, Proper, framed, number_of}
use Rattle.npr_base.specs.Looks.{Looking, Inside, nothing, looked_through, TakesInside}
use Rattle.npr_base.specs.lemmas.Looks.{none-most, none-saw}
use Rattle.npr_base.specs.Looking.{no_looking}
use Rattle.npr_base.specs.Table.{Slot, slot_plain, slot_other, slot_unfit, slot_members, slot_sees, item_of, plain_item, writing_by, seen_by}
use Rattle.npr_base.specs.Value.{Shown, Shows}
use Rattle.npr_base.specs.declared.attribute_set.At.{At}
use Rattle.npr_base.specs.declared.value.Form.TheVariants.{Raw}

-- what stands inside the value of an attribute
abbrev pub looking_within : Inside → Looking Item
looking_within nothing = no_looking
looking_within (looked_through l) = record {
  Takes = λ x. l.Takes x.value;
  one = λ x. l.one x.value;
  adds = λ x. l.adds x.value;
}

pub within : (i : Inside) (x : Item) (old new : Counts) → (looking_within i).Takes x old new → TakesInside i x.value old new
within nothing x old new t = t
within (looked_through l) x old new t = t

-- by a variant of A, which is written in this place
module _ {A V : Type 0} (slot_of : A → Slot) (at : At) (kind : ℕ) (small : kind < 2 ^ 16) (c : Codec V) (made : V → A)
    (is : (v : V) → slot_of (made v) ≡ slot_plain kind c v) where
  abbrev IsMade : (V → Type 0) → A → Type 0
  IsMade P a = (v : V) × P v × (a ≡ made v)

  valued-at : (a : A) (v : V) → a ≡ made v → slot_of a ≡ slot_plain kind c v
  valued-at a v e = ap slot_of e ∙ is v

  pub valued-one : (x : Item) (a b : A) → IsMade (c.Reads x.value) a → IsMade (c.Reads x.value) b → a ≡ b
  valued-one x a b p q = p.2 ∙ ap made (c.one_reading x.value p.0 q.0 p.1 q.1) ∙ sym q.2

  pub valued-kind : (a : A) → IsMade c.Holds a → (written_by (writing_by slot_of) a).kind < 2 ^ 16
  valued-kind a p = subst (λ (s : Slot). (item_of s).kind < 2 ^ 16) (sym (valued-at a p.0 p.2)) small

  pub valued-back : (a : A) → IsMade c.Holds a → unfit_by (writing_by slot_of) a ≡ None → IsMade (c.Reads (written_by (writing_by slot_of) a).value) a
  valued-back a p fits =
      let at_slot = valued-at a p.0 p.2 in
      let free : slot_unfit (slot_of a) ≡ None = unfit_of-none (slot_unfit (slot_of a)) (plain_item (slot_of a)) fits in
      let reads = c.reads_back kind p.0 p.1 (sym (ap slot_unfit at_slot) ∙ free) in
      (p.0, subst (λ (s : Slot). c.Reads (item_of s).value p.0) (sym at_slot) reads, p.2)

  pub valued-grows : (x : Item) (a : A) → Proper x → IsMade (c.Reads x.value) a
      → 2 * framed (length (written_by (writing_by slot_of) a).value) ≤ 5 * (4 + length x.value)
  valued-grows x a proper p =
      subst (λ (s : Slot). 2 * framed (length (item_of s).value) ≤ 5 * (4 + length x.value)) (sym (valued-at a p.0 p.2))
      (c.grows x.value p.0 proper.value p.1)

  pub valued-saw : (x : Item) (a : A) (old new : Counts) → IsMade (c.Reads x.value) a → (looking_within c.members.looks).Takes x old new
      → SawEach old new ((writing_by slot_of).members a)
  valued-saw x a old new p t =
      subst (λ (s : Slot). SawEach old new (slot_members s)) (sym (valued-at a p.0 p.2))
      (c.members.saw x.value p.0 old new p.1 (within c.members.looks x old new t))

  pub valued-shows : (x : Item) (s : Shown) (a : A) → Shows c.showing.form x.value s → IsMade (c.Reads x.value) a → s ≡ seen_by slot_of a x.value
  valued-shows x s a p q =
      c.showing.shows x.value s q.0 p q.1 ∙ sym (ap (λ (h : Slot). slot_sees h x.value) (valued-at a q.0 q.2))

  abbrev pub valued : Reading (writing_by slot_of)
  valued = record {
    Reads = λ x a. IsMade (c.Reads x.value) a;
    Faulty = λ x e. c.Wrong at x.value e;
    looks = looking_within c.members.looks;
    Coherent = IsMade c.Holds;
    one_reading = valued-one;
    no_fault = λ x a e p q. c.no_fault at x.value p.0 e p.1 q;
    reads_coherent = λ x a proper p. (p.0, c.reads_holds x.value p.0 proper.value p.1, p.2);
    kinds = valued-kind;
    reads_back = valued-back;
    grows = valued-grows;
    bounded = λ x old new t. c.members.bounded x.value old new (within c.members.looks x old new t);
    saw = valued-saw;
    seeing = record {
      form_at = λ number. (at, c.showing.form);
      sees = λ x a. seen_by slot_of a x.value;
      shows = valued-shows;
      whole = λ x s w p. let v = c.showing.whole x.value s w p in (made v.0, (v.0, v.1, refl));
      wrong = λ x e p. c.showing.wrong at x.value e p;
    };
  }

  -- the number that is written
  pub valued-number : (a : A) (x : Item) → IsMade (c.Reads x.value) a → number_of (written_by (writing_by slot_of) a).kind ≡ number_of kind
  valued-number a x p = ap (λ (s : Slot). number_of (item_of s).kind) (valued-at a p.0 p.2)

module _ {A : Type 0} (slot_of : A → Slot) (at : At) (made : Item → A) (is : (x : Item) → slot_of (made x) ≡ slot_other x) where
  abbrev IsKept : (Item → Type 0) → A → Type 0
  IsKept P a = (x : Item) × P x × (a ≡ made x)

  pub whole-at : (a : A) (x : Item) → a ≡ made x → slot_of a ≡ slot_other x
  whole-at a x e = ap slot_of e ∙ is x

  pub whole-written : (a : A) (x : Item) → a ≡ made x → written_by (writing_by slot_of) a ≡ x
  whole-written a x e = ap item_of (whole-at a x e)

  pub whole-grows : (x : Item) (a : A) → a ≡ made x → 2 * framed (length (written_by (writing_by slot_of) a).value) ≤ 5 * (4 + length x.value)
  whole-grows x a e =
      framed-grows (length (written_by (writing_by slot_of) a).value) (length x.value)
      (omega (arith, ap (λ (y : Item). length y.value) (whole-written a x e)))

  pub whole-back : (a : A) → IsKept Proper a → a ≡ made (written_by (writing_by slot_of) a)
  whole-back a p = p.2 ∙ ap made (sym (whole-written a p.0 p.2))

  abbrev pub whole : Reading (writing_by slot_of)
  whole = record {
    Reads = λ x a. a ≡ made x;
    Faulty = λ x e. ⊥;
    looks = no_looking;
    Coherent = IsKept Proper;
    one_reading = λ x a b p q. p ∙ sym q;
    no_fault = λ x a e p q. q;
    reads_coherent = λ x a proper p. (x, proper, p);
    kinds = λ a p. subst (λ (y : Item). y.kind < 2 ^ 16) (sym (whole-written a p.0 p.2)) p.1.kind;
    reads_back = λ a p fits. whole-back a p;
    grows = λ x a proper p. whole-grows x a p;
    bounded = λ x old new t. none-most (length x.value) old new t;
    saw = λ x a old new p t. subst (λ (s : Slot). SawEach old new (slot_members s)) (sym (whole-at a x p)) (none-saw old new t);
    seeing = record {
      form_at = λ number. (at, Raw);
      sees = λ x a. seen_by slot_of a x.value;
      shows = λ x s a p q. p ∙ sym (ap (λ (h : Slot). slot_sees h x.value) (whole-at a x q));
      whole = λ x s w p. (made x, refl);
      wrong = λ x e p. p;
    };
  }
