-- The type that governs a list is the first that its attributes hold.
use Rattle.std.specs.Prelude.{◌==◌}
use Rattle.std.proofs.Common.{◌≡◌, ℕ, Bool, true, false, List, [], ◌∷◌, Some, None, refl, sym, ap, subst, ◌∙◌}
use Rattle.std.proofs.Common.{rules, inl, inr}
use Rattle.std.proofs.lemmas.Bool.{eqb-true, cases_Bool}
use Rattle.npr_base.specs.Family.{Reading}
use Rattle.npr_base.specs.lemmas.FirstTold.{governs-one, first-step}
use Rattle.npr_base.specs.Framing.{Item, number_of, Passes}
use Rattle.npr_base.specs.Lists.{Each, ReadsList}
use Rattle.npr_base.specs.Table.{ReadsAt}
use Rattle.npr_base.proofs.Unless.{Unless, unless-reads}
use Rattle.npr_route_values.specs.RouteAddress.{Form, four, sixteen, label, any, form_of}
use Rattle.npr_encapsulation.specs.Encapsulation as OfEncap
use Rattle.npr_encapsulation.specs.declared.encap_type.RouteLwEnCapType.{RouteLwEnCapType}
use Rattle.npr_route.specs.Attribute.{Meaning, flat, multi_path, Attributes, no_more, attribute, attributes_of, Reads, AreAttributes}
use Rattle.npr_route.specs.Attribute.{meaning_type, first_type}
use Rattle.npr_route.specs.FlatAttribute as Flat
use Rattle.npr_route.specs.FlatAttribute.{Context, other, rows, is_multicast, new_destination_variant, NewDestinationValue, expires_variant}
use Rattle.npr_route.specs.FlatFamily as Flats
use Rattle.npr_route.specs.Governing.{item_type, Governs}

-- a type is held by number 21 alone
abbrev HoldsNone : Flat.Meaning → Type 0
HoldsNone m = meaning_type (flat m) ≡ None

destination_none : (form : Form) (v : NewDestinationValue form) → HoldsNone (new_destination_variant form v)
destination_none four v = refl
destination_none sixteen v = refl
destination_none label v = refl
destination_none any v = refl

expires_none : (multicast : Bool) (v : ℕ) → HoldsNone (expires_variant multicast v)
expires_none true v = refl
expires_none false v = refl

rows_none : (form : Form) (multicast : Bool) (family : Reading OfEncap.writing) → Unless HoldsNone 21 (rows form multicast family)
rows_none form multicast family = search (rules, destination_none form, expires_none multicast)

alike_at : (form : Form) (multicast : Bool) (family : Reading OfEncap.writing) (x : Item) (m : Flat.Meaning) → (number_of x.kind ≡ 21)
    → ReadsAt other (rows form multicast family) 21 x m → item_type x ≡ meaning_type (flat m)
alike_at form multicast family x m is (v, (size, p), q) = rw (is, size) (ap Some (sym p) ∙ sym (ap (λ (n : Flat.Meaning). meaning_type (flat n)) q))

flat-alike : (form : Form) (multicast : Bool) (family : Reading OfEncap.writing) (x : Item) (m : Flat.Meaning)
    → (Flats.attributes_in form multicast family).Reads x m → item_type x ≡ meaning_type (flat m)
flat-alike form multicast family x m p = elim (cases_Bool (number_of x.kind == 21)) [
  | inl e ↦
      let is : number_of x.kind ≡ 21 = eqb-true (number_of x.kind) 21 e in
      alike_at form multicast family x m is (subst (λ (k : ℕ). ReadsAt other (rows form multicast family) k x m) is p)
  | inr e ↦ rw e (sym (unless-reads HoldsNone 21 other (rows form multicast family) (rows_none form multicast family) (λ y. refl) (number_of x.kind) x m e p))
]

-- an attribute tells the type that its meaning holds, and next hops tell none
alike : (c : Context) (x : Item) (m : Meaning) → Reads c x m → item_type x ≡ meaning_type m
alike c x (flat m) p = flat-alike (form_of c.0) (is_multicast c.1) (OfEncap.encapsulation c.2) x m p.1
alike c x (multi_path hs) p = rw p.0 refl

-- the first type that a list holds governs it, whatever its attributes are read under
pub first_governs : (outer : RouteLwEnCapType) (c : Context) (bytes : List ℕ) (ms : Attributes) → AreAttributes c bytes ms
    → Governs outer bytes (first_type outer ms)
first_governs outer c bytes no_more p = ([], bytes, refl, tt, inr (inl p, refl))
first_governs outer c bytes (attribute m ms) (x, rest, f, p, ps) =
    first-step item_type outer (meaning_type m) x rest bytes (first_type outer ms) (alike c x m p) f (first_governs outer c rest ms ps)

-- and no other does
pub governs_first : (outer type : RouteLwEnCapType) (c : Context) (bytes : List ℕ) (ms : Attributes) → Governs outer bytes type
    → AreAttributes c bytes ms → type ≡ first_type outer ms
governs_first outer type c bytes ms g p = governs-one item_type outer bytes type (first_type outer ms) g (first_governs outer c bytes ms p)

-- ---- a list of meanings

read_each : (c : Context) (items : List Item) (bytes : List ℕ) (ms : List Meaning) → Passes bytes items [] → Each (Reads c) items ms
    → AreAttributes c bytes (attributes_of ms)
read_each c [] bytes [] p h = p
read_each c [] bytes (m ∷ ms) p h = absurd h
read_each c (x ∷ items) bytes [] p h = absurd h
read_each c (x ∷ items) bytes (m ∷ ms) (rest, f, p) h = (x, rest, f, h.0, read_each c items rest ms p h.1)

pub all_read : (c : Context) (bytes : List ℕ) (ms : List Meaning) → ReadsList (Reads c) bytes ms → AreAttributes c bytes (attributes_of ms)
all_read c bytes ms (items, p, h) = read_each c items bytes ms p h
