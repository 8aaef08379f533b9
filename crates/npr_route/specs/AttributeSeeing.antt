-- What the attributes of a route message are seen as: next hops, whose reader is their own, and the others by the table.
use Rattle.std.specs.Prelude.{◌≡◌, ◌≢◌, ℕ, ◌==◌, Bool, true, false, if◌then◌else◌}
use Rattle.std.proofs.Common.{refl, sym, subst}
use Rattle.std.proofs.lemmas.Bool.{eqb-false, ne_eqb}
use Rattle.npr_base.specs.declared.attribute_set.At.{At}
use Rattle.npr_base.specs.declared.attribute_set.AttributeSet.TheVariants.{Route as OfRoute}
use Rattle.npr_base.specs.declared.refusal.DecodeError.{DecodeError}
use Rattle.npr_base.specs.declared.value.Form.{Form}
use Rattle.npr_base.specs.declared.value.Form.TheVariants.{Inside}
use Rattle.npr_base.specs.Framing.{Item, number_of}
use Rattle.npr_base.specs.Refusal.{at_number}
use Rattle.npr_base.specs.Showing.{Seeing}
use Rattle.npr_base.specs.Value.{Shown, is_inside, Shows, Misshown, IsWhole}
use Rattle.npr_route.specs.Attribute.{Meaning, flat, multi_path, Reads, Wrong, value_wrong}
use Rattle.npr_route.specs.FlatAttribute.{Context}
use Rattle.npr_route.specs.FlatFamily as Flats

-- number 9 holds next hops, and another what the table says
abbrev form_or : Bool → At × Form → At × Form
form_or b f = if b then (at_number OfRoute 9, Inside) else f

abbrev pub attribute_form : Context → ℕ → At × Form
attribute_form c k = form_or (k == 9) ((Flats.attributes c).seeing.form_at k)

abbrev table_form : Context → Item → At × Form
table_form c x = (Flats.attributes c).seeing.form_at (number_of x.kind)

abbrev pub attribute_sees : Context → Item → Meaning → Shown
attribute_sees c x (flat m) = (Flats.attributes c).seeing.sees x m
attribute_sees c x (multi_path hops) = is_inside x.value

module _ (c : Context) (x : Item) where
  flat-shows : (b : Bool) (s : Shown) (f : At × Form) → b ≡ false → Shows (form_or b f).1 x.value s → Shows f.1 x.value s
  flat-shows false s f e p = p
  flat-shows true s f e p = absurd cc

  hops-show : (b : Bool) (s : Shown) (f : At × Form) → b ≡ true → Shows (form_or b f).1 x.value s → s ≡ is_inside x.value
  hops-show true s f e p = p
  hops-show false s f e p = absurd cc

  pub attribute-shows : (s : Shown) (m : Meaning) → Shows (attribute_form c (number_of x.kind)).1 x.value s → Reads c x m → s ≡ attribute_sees c x m
  attribute-shows s (flat m) p (other, reads) =
      let f = (Flats.attributes c).seeing in
      f.shows x s m (flat-shows (number_of x.kind == 9) s (f.form_at (number_of x.kind)) (ne_eqb (number_of x.kind) 9 other) p) reads
  attribute-shows s (multi_path hops) p (nine, are) =
      hops-show (number_of x.kind == 9) s ((Flats.attributes c).seeing.form_at (number_of x.kind)) (subst (λ (k : ℕ). (k == 9) ≡ true) (sym nine) refl) p

  pub whole-or : (b : Bool) → (number_of x.kind == 9) ≡ b → (s : Shown) → IsWhole (form_or b (table_form c x)).1
      → Shows (form_or b (table_form c x)).1 x.value s → (m : Meaning) × Reads c x m
  whole-or true e s w p = absurd w
  whole-or false e s w p =
      let m = (Flats.attributes c).seeing.whole x s w p in
      (flat m.0, (eqb-false (number_of x.kind) 9 e, m.1))

  pub wrong-or : (b : Bool) → (number_of x.kind == 9) ≡ b → (e : DecodeError)
      → (let f = form_or b (table_form c x) in Misshown f.1 f.0 x.value e) → Wrong c x e
  wrong-or true e r p = absurd p
  wrong-or false e r p = value_wrong (eqb-false (number_of x.kind) 9 e) ((Flats.attributes c).seeing.wrong x r p)

abbrev pub attributes-seeing : (c : Context) → Seeing (Reads c) (Wrong c)
attributes-seeing c = record {
  form_at = attribute_form c;
  sees = attribute_sees c;
  shows = attribute-shows c;
  whole = λ x s w p. whole-or c x (number_of x.kind == 9) refl s w p;
  wrong = λ x e p. wrong-or c x (number_of x.kind == 9) refl e p;
}
