-- What values that are read from bytes are seen as, with the laws that tie both.
use Rattle.std.specs.Prelude.{◌≡◌, ℕ, List}
use Rattle.std.proofs.Common.{refl, sym, ap, ◌∙◌}
use Rattle.npr_base.specs.declared.attribute_set.At.{At}
use Rattle.npr_base.specs.declared.attribute_set.AttributeSet.{AttributeSet}
use Rattle.npr_base.specs.declared.refusal.DecodeError.{DecodeError}
use Rattle.npr_base.specs.declared.value.Form.{Form}
use Rattle.npr_base.specs.declared.value.Form.TheVariants.{Raw, List as Listed, Inside, Dropped}
use Rattle.npr_base.specs.Framing.{Item, number_of}
use Rattle.npr_base.specs.Value.{Shown, are_bytes, is_inside, is_nothing, Shows, Misshown, IsWhole}

-- of values that bytes are read as so, and refused so
pub record Showing {V : Type 0} (Reads : List ℕ → V → Type 0) (Wrong : At → List ℕ → DecodeError → Type 0) : Type 0 where
  -- how the bytes are read without memory
  pub form : Form
  -- what a value is seen as that the bytes are
  pub sees : List ℕ → V → Shown
  -- what is shown is what the value is seen as
  pub shows : (b : List ℕ) (s : Shown) (x : V) → Shows form b s → Reads b x → s ≡ sees b x
  -- there is one, where it is read
  pub whole : (b : List ℕ) (s : Shown) → IsWhole form → Shows form b s → (x : V) × Reads b x
  -- what is wrong for one is wrong for both
  pub wrong : (at : At) (b : List ℕ) (e : DecodeError) → Misshown form at b e → Wrong at b e

-- of attributes that mean something so, and nothing so
pub record Seeing {M : Type 0} (Reads : Item → M → Type 0) (Faulty : Item → DecodeError → Type 0) : Type 0 where
  -- by a number: the place that refusals tell, and how the value is read without memory
  pub form_at : ℕ → At × Form
  -- what an attribute is seen as that means so
  pub sees : Item → M → Shown
  pub shows : (x : Item) (s : Shown) (m : M) → Shows (form_at (number_of x.kind)).1 x.value s → Reads x m → s ≡ sees x m
  pub whole : (x : Item) (s : Shown) → IsWhole (form_at (number_of x.kind)).1 → Shows (form_at (number_of x.kind)).1 x.value s → (m : M) × Reads x m
  pub wrong : (x : Item) (e : DecodeError) → Misshown (form_at (number_of x.kind)).1 (form_at (number_of x.kind)).0 x.value e → Faulty x e

-- values with a reader of their own
abbrev pub shows_inside : {V : Type 0} {Reads : List ℕ → V → Type 0} {Wrong : At → List ℕ → DecodeError → Type 0} → Showing Reads Wrong
shows_inside = record {
  form = Inside;
  sees = λ b x. is_inside b;
  shows = λ b s x p q. p;
  whole = λ b s w p. absurd w;
  wrong = λ at b e p. absurd p;
}

-- a list of attributes of this set, behind so many bytes
abbrev pub shows_list : {V : Type 0} {Reads : List ℕ → V → Type 0} {Wrong : At → List ℕ → DecodeError → Type 0} → AttributeSet → ℕ → Showing Reads Wrong
shows_list set front = record {
  form = Listed set front;
  sees = λ b x. is_inside b;
  shows = λ b s x p q. p;
  whole = λ b s w p. absurd w;
  wrong = λ at b e p. absurd p;
}

-- bytes as they stand
abbrev pub shows_bytes : Showing (λ (b x : List ℕ). x ≡ b) (λ at b e. ⊥)
shows_bytes = record {
  form = Raw;
  sees = λ b x. are_bytes x;
  shows = λ b s x p q. p ∙ ap are_bytes (sym q);
  whole = λ b s w p. (b, refl);
  wrong = λ at b e p. p;
}

-- bytes that are dropped
abbrev pub shows_nothing : Showing (λ (b : List ℕ) (x : Unit {0}). Unit {0}) (λ at b e. ⊥)
shows_nothing = record {
  form = Dropped;
  sees = λ b x. is_nothing;
  shows = λ b s x p q. p;
  whole = λ b s w p. (tt, tt);
  wrong = λ at b e p. p;
}
