-- The family of the attributes of a route message: bytes are one list of them at most, what is wrong with them is none,
-- and what is written is read again; likewise of next hops.
use Rattle.std.specs.Prelude.{◌==◌}
use Rattle.std.proofs.Common.{◌≡◌, ℕ, ◌+◌, ◌*◌, ◌%◌, ◌<◌, ◌≤◌, ◌^◌, Bool, true, false, List, [], ◌∷◌, ◌++◌, length, Some, None, refl, sym, ap, subst, ◌∙◌}
use Rattle.std.proofs.Common.{arith, rules, inl, inr, length-append}
use Rattle.std.proofs.lemmas.Bool.{eqb-true, cases_lt, lt-ltb, le-ltb}
use Rattle.npr_base.specs.declared.refusal.DecodeError.{DecodeError}
use Rattle.npr_base.specs.declared.refusal.EmitError.TheVariants.{NextHopTooLong, Total}
use Rattle.npr_base.specs.Framing.{Item, IsBytes, Proper, Small, number_of, marked, encoding, framed}
use Rattle.npr_base.specs.lemmas.FirstTold.{governs-one}
use Rattle.npr_base.specs.Lists.{option_or, overlong}
use Rattle.npr_base.specs.lemmas.Fit.{unfit_of-none, unfit_of-short, none_both}
use Rattle.npr_base.specs.lemmas.Front.{Front-same, Front-sound, Front-takes, no_front}
use Rattle.npr_base.specs.lemmas.List.{encoding-front, Front-proper, length-encoding}
use Rattle.npr_base.specs.Family.{Reading, written_by}
use Rattle.npr_base.specs.Table.{Row, ReadsAt}
use Rattle.npr_base.specs.lemmas.Bool.{one_of}
use Rattle.npr_route_values.specs.RouteAddress.{Form, four, sixteen, label, any, form_of}
use Rattle.npr_encapsulation.specs.Encapsulation as OfEncap
use Rattle.npr_encapsulation.specs.declared.encap_type.RouteLwEnCapType.{RouteLwEnCapType}
use Rattle.npr_route.specs.FlatAttribute as Flat
use Rattle.npr_route.specs.FlatAttribute.{Context, rows, other, is_multicast, new_destination_variant, NewDestinationValue, expires_variant}
use Rattle.npr_route.specs.FlatFamily as Flats
use Rattle.npr_route.specs.Attribute.{HopHead, HoldsHead, hop_text, HopFront, Meaning, flat, multi_path, Attributes, no_more, attribute, Hops, no_hops, hop}
use Rattle.npr_route.specs.Attribute.{typed, first_type, Reads, AreAttributes, AreGoverned, AreHops, Wrong, value_wrong, hops_wrong, AttributesWrong}
use Rattle.npr_route.specs.Attribute.{GovernedWrong, governed_wrong, none_in_front, first_wrong, later_wrong, HopsWrong, no_hop_in_front, first_hop_wrong}
use Rattle.npr_route.specs.Attribute.{later_hop_wrong, shape_of, writes, attributes_bytes, hops_bytes, hop_overlong, meaning_unfit, attributes_unfit}
use Rattle.npr_route.specs.Attribute.{hops_unfit, Coherent, AttributesCoherent, HopsCoherent, depth, attributes_depth, hops_depth}
use Rattle.npr_route.specs.Governing.{item_type, Governs}
use Rattle.npr_route.specs.lemmas.Governing.{first_governs, governs_first}
use Rattle.npr_route.specs.lemmas.NextHopFront.{HopFront-same, HopFront-sound, HopFront-length, HopFront-proper, no_hop}

-- what is read, or is wrong, under the type that governs is so under this one
under-it : (c : Context) (bytes : List ℕ) (type : RouteLwEnCapType) (ms : Attributes) → Governs c.2 bytes type → AreGoverned c bytes ms
    → AreAttributes (typed c type) bytes ms
under-it c bytes a ms g (b, h, p) = subst (λ (t : RouteLwEnCapType). AreAttributes (typed c t) bytes ms) (governs-one item_type c.2 bytes b a h g) p

wrong-under-it : (c : Context) (bytes : List ℕ) (type : RouteLwEnCapType) (e : DecodeError) → Governs c.2 bytes type → GovernedWrong c bytes e
    → AttributesWrong (typed c type) bytes e
wrong-under-it c bytes a e g (governed_wrong b h w) =
    subst (λ (t : RouteLwEnCapType). AttributesWrong (typed c t) bytes e) (governs-one item_type c.2 bytes b a h g) w

-- ---- one reading

mutual
  pub reads-one : (c : Context) (x : Item) (m n : Meaning) → Reads c x m → Reads c x n → m ≡ n
  reads-one c x (flat m) (flat n) p q = ap flat ((Flats.attributes c).one_reading x m n p.1 q.1)
  reads-one c x (flat m) (multi_path hs) p q = absurd (p.0 q.0)
  reads-one c x (multi_path gs) (flat n) p q = absurd (q.0 p.0)
  reads-one c x (multi_path gs) (multi_path hs) p q = ap multi_path (hops-one c x.value gs hs p.1 q.1)

  pub attributes-one : (c : Context) (bytes : List ℕ) (ms ns : Attributes) → AreAttributes c bytes ms → AreAttributes c bytes ns → ms ≡ ns
  attributes-one c bytes no_more no_more p q = refl
  attributes-one c bytes no_more (attribute n ns) p (y, s, g, q, qs) = no_front bytes s y p g
  attributes-one c bytes (attribute m ms) no_more (x, r, f, p, ps) q = no_front bytes r x q f
  attributes-one c bytes (attribute m ms) (attribute n ns) (x, r, f, p, ps) (y, s, g, q, qs) =
      let e = Front-same bytes x y r s f g in
      let same : m ≡ n = reads-one c x m n p (subst (λ (z : Item). Reads c z n) (sym e.0) q) in
      let tail : ms ≡ ns = attributes-one c r ms ns ps (subst (λ (z : List ℕ). AreAttributes c z ns) (sym e.1) qs) in
      ap (λ (z : Meaning). attribute z ms) same ∙ ap (λ (z : Attributes). attribute n z) tail

  pub hops-one : (c : Context) (bytes : List ℕ) (gs hs : Hops) → AreHops c bytes gs → AreHops c bytes hs → gs ≡ hs
  hops-one c bytes no_hops no_hops p q = refl
  hops-one c bytes no_hops (hop k ns hs) p (j, s, g, q, qs) = no_hop bytes j s k p g
  hops-one c bytes (hop h ms gs) no_hops (i, r, f, p, ps) q = no_hop bytes i r h q f
  hops-one c bytes (hop h ms gs) (hop k ns hs) (i, r, f, p, ps) (j, s, g, q, qs) =
      let e = HopFront-same bytes h k i j r s f g in
      let inside : ms ≡ ns = attributes-one (typed c p.0) i ms ns p.2 (under-it c i p.0 ns p.1 (subst (λ (z : List ℕ). AreGoverned c z ns) (sym e.1) q)) in
      let tail : gs ≡ hs = hops-one c r gs hs ps (subst (λ (z : List ℕ). AreHops c z hs) (sym e.2) qs) in
      ap (λ (z : HopHead). hop z ms gs) e.0 ∙ ap (λ (z : Attributes). hop k z gs) inside ∙ ap (λ (z : Hops). hop k ns z) tail

-- ---- what is wrong is none

mutual
  pub reads-sound : (c : Context) (x : Item) (m : Meaning) (e : DecodeError) → Reads c x m → Wrong c x e → ⊥
  reads-sound c x (flat m) e p (value_wrong not bad) = (Flats.attributes c).no_fault x m e p.1 bad
  reads-sound c x (flat m) e p (hops_wrong is bad) = p.0 is
  reads-sound c x (multi_path hs) e p (value_wrong not bad) = not p.0
  reads-sound c x (multi_path hs) e p (hops_wrong is bad) = hops-sound c x.value hs e p.1 bad

  pub attributes-sound : (c : Context) (bytes : List ℕ) (ms : Attributes) (e : DecodeError) → AreAttributes c bytes ms → AttributesWrong c bytes e → ⊥
  attributes-sound c bytes no_more e p (none_in_front left bad) = omega (arith, ap length p)
  attributes-sound c bytes no_more e p (first_wrong y s g bad) = no_front bytes s y p g
  attributes-sound c bytes no_more e p (later_wrong y s n g q bad) = no_front bytes s y p g
  attributes-sound c bytes (attribute m ms) e (x, r, f, p, ps) (none_in_front left bad) = Front-sound bytes x r e f bad
  attributes-sound c bytes (attribute m ms) e (x, r, f, p, ps) (first_wrong y s g bad) =
      reads-sound c x m e p (subst (λ (z : Item). Wrong c z e) (Front-same bytes y x s r g f).0 bad)
  attributes-sound c bytes (attribute m ms) e (x, r, f, p, ps) (later_wrong y s n g q bad) =
      attributes-sound c r ms e ps (subst (λ (z : List ℕ). AttributesWrong c z e) (Front-same bytes y x s r g f).1 bad)

  pub hops-sound : (c : Context) (bytes : List ℕ) (hs : Hops) (e : DecodeError) → AreHops c bytes hs → HopsWrong c bytes e → ⊥
  hops-sound c bytes no_hops e p (no_hop_in_front left bad) = omega (arith, ap length p)
  hops-sound c bytes no_hops e p (first_hop_wrong k j s g bad) = no_hop bytes j s k p g
  hops-sound c bytes no_hops e p (later_hop_wrong k j s ns g q bad) = no_hop bytes j s k p g
  hops-sound c bytes (hop h ms hs) e (i, r, f, p, ps) (no_hop_in_front left bad) = HopFront-sound bytes h i r e f bad
  hops-sound c bytes (hop h ms hs) e (i, r, f, p, ps) (first_hop_wrong k j s g bad) =
      let inside = subst (λ (z : List ℕ). GovernedWrong c z e) (HopFront-same bytes k h j i s r g f).1 bad in
      attributes-sound (typed c p.0) i ms e p.2 (wrong-under-it c i p.0 e p.1 inside)
  hops-sound c bytes (hop h ms hs) e (i, r, f, p, ps) (later_hop_wrong k j s ns g q bad) =
      hops-sound c r hs e ps (subst (λ (z : List ℕ). HopsWrong c z e) (HopFront-same bytes k h j i s r g f).2 bad)

pub governed-sound : (c : Context) (bytes : List ℕ) (ms : Attributes) (e : DecodeError) → AreGoverned c bytes ms → GovernedWrong c bytes e → ⊥
governed-sound c bytes ms e p bad = attributes-sound (typed c p.0) bytes ms e p.2 (wrong-under-it c bytes p.0 e p.1 bad)

-- ---- an attribute is written under the number that it was read of

-- the variants of each row have its number
abbrev Numbered : {M : Type 0} → (M → ℕ) → List (Row M) → Type 0
Numbered number [] = Unit {0}
Numbered number (r ∷ rs) = ((v : r.V) → number (r.variant v) ≡ r.at.number) × Numbered number rs

numbered-reads : {M : Type 0} (number : M → ℕ) (kept : Item → M) → ((x : Item) → number (kept x) ≡ number_of x.kind)
    → (rs : List (Row M)) → Numbered number rs → (k : ℕ) (x : Item) (m : M) → number_of x.kind ≡ k → ReadsAt kept rs k x m
    → number m ≡ k
numbered-reads number kept same [] all k x m is p = ap number p ∙ same x ∙ is
numbered-reads number kept same (r ∷ rs) all k x m is p = one_of (k == r.at.number)
    (λ e a. ap number a.2 ∙ all.0 a.0 ∙ sym (eqb-true k r.at.number e))
    (λ e a. numbered-reads number kept same rs all.1 k x m is a) p

-- the number under which an attribute is written
abbrev written_number : Flat.Meaning → ℕ
written_number m = number_of (written_by Flat.writing m).kind

number_marked : (nested : Bool) → number_of (marked nested 22) ≡ 22
number_marked true = refl
number_marked false = refl

destination_numbered : (form : Form) (v : NewDestinationValue form) → written_number (new_destination_variant form v) ≡ 19
destination_numbered four v = refl
destination_numbered sixteen v = refl
destination_numbered label v = refl
destination_numbered any v = refl

expires_numbered : (multicast : Bool) (v : ℕ) → written_number (expires_variant multicast v) ≡ 23
expires_numbered true v = refl
expires_numbered false v = refl

numbered : (form : Form) (multicast : Bool) (family : Reading OfEncap.writing) → Numbered written_number (rows form multicast family)
numbered form multicast family = search (rules, destination_numbered form, expires_numbered multicast, number_marked)

number-kept : (c : Context) (x : Item) (m : Flat.Meaning) → (Flats.attributes c).Reads x m → written_number m ≡ number_of x.kind
number-kept c x m p =
    numbered-reads written_number other (λ y. refl) (rows (form_of c.0) (is_multicast c.1) (OfEncap.encapsulation c.2))
    (numbered (form_of c.0) (is_multicast c.1) (OfEncap.encapsulation c.2)) (number_of x.kind) x m refl p

-- ---- what is read is coherent

mutual
  pub reads-coherent : (c : Context) (x : Item) (m : Meaning) → Proper x → Reads c x m → Coherent c m
  reads-coherent c x (flat m) proper p = ((Flats.attributes c).reads_coherent x m proper p.1, λ e. p.0 (sym (number-kept c x m p.1) ∙ e))
  reads-coherent c x (multi_path hs) proper p = hops-coherent c x.value hs proper.value p.1

  pub attributes-coherent : (c : Context) (bytes : List ℕ) (ms : Attributes) → IsBytes bytes → AreAttributes c bytes ms → AttributesCoherent c ms
  attributes-coherent c bytes no_more is p = tt
  attributes-coherent c bytes (attribute m ms) is (x, r, f, p, ps) =
      let k = Front-proper bytes x r is f in
      (reads-coherent c x m k.0 p, attributes-coherent c r ms k.1 ps)

  pub hops-coherent : (c : Context) (bytes : List ℕ) (hs : Hops) → IsBytes bytes → AreHops c bytes hs → HopsCoherent c hs
  hops-coherent c bytes no_hops is p = tt
  hops-coherent c bytes (hop h ms hs) is (i, r, f, p, ps) =
      let k = HopFront-proper bytes h i r is f in
      let first : p.0 ≡ first_type c.2 ms = governs_first c.2 p.0 (typed c p.0) i ms p.1 p.2 in
      let inside = subst (λ (t : RouteLwEnCapType). AttributesCoherent (typed c t) ms) first (attributes-coherent (typed c p.0) i ms k.0 p.2) in
      (f.holds, inside, hops-coherent c r hs k.1 ps)

-- ---- what is written is read again

pub hop-short : (len : ℕ) → hop_overlong len ≡ None → len ≤ 65535
hop-short len e = elim (cases_lt len 65536) [
  | inl lt ↦ omega arith
  | inr le ↦ elim (cases_lt len (2 ^ 64)) [
    | inl lt ↦ absurd (let h : hop_overlong len ≡ Some (NextHopTooLong len) = rw (le-ltb len 65536 le, lt-ltb len (2 ^ 64) lt) refl in cc)
    | inr past ↦ absurd (let h : hop_overlong len ≡ Some Total = rw (le-ltb len 65536 le, le-ltb len (2 ^ 64) past) refl in cc)
  ]
]

pub fits-inside : (hs : Hops) → (shape_of (multi_path hs)).unfit ≡ None → hops_unfit hs ≡ None
fits-inside hs h = (none_both (hops_unfit hs) (overlong (length (hops_bytes hs))) h).0

pub kinds : (c : Context) (m : Meaning) → Coherent c m → (writes m).kind < 2 ^ 16
kinds c (flat m) k = (Flats.attributes c).kinds m k.0
kinds c (multi_path hs) k = omega arith

small : (c : Context) (m : Meaning) → Coherent c m → meaning_unfit m ≡ None → Small (writes m)
small c m k h = record { kind = kinds c m k; value = unfit_of-short (shape_of m).unfit (shape_of m).item h }

-- what is written of a next hop needs no padding
hop-front : (h : HopHead) (inside rest : List ℕ) → HoldsHead h → 8 + length inside ≤ 65535 → length inside % 4 ≡ 0
    → HopFront (hop_text h inside ++ rest) h inside rest
hop-front h inside rest holds short whole = record {
  padding = [];
  is = refl;
  holds = holds;
  short = short;
  most = omega arith;
  whole = λ more. omega (arith, whole);
}

attributes-whole : (ms : Attributes) → length (attributes_bytes ms) % 4 ≡ 0
attributes-whole no_more = refl
attributes-whole (attribute m ms) =
    omega (arith, length-append (encoding (writes m)) (attributes_bytes ms), length-encoding (writes m), attributes-whole ms)

mutual
  pub reads-back : (c : Context) (m : Meaning) → Coherent c m → meaning_unfit m ≡ None → Reads c (writes m) m
  reads-back c (flat m) k h = (k.1, (Flats.attributes c).reads_back m k.0 h)
  reads-back c (multi_path hs) k h =
      (refl, hops-back c hs k (fits-inside hs (unfit_of-none (shape_of (multi_path hs)).unfit (shape_of (multi_path hs)).item h)))

  pub attributes-back : (c : Context) (ms : Attributes) → AttributesCoherent c ms → attributes_unfit ms ≡ None → AreAttributes c (attributes_bytes ms) ms
  attributes-back c no_more k h = refl
  attributes-back c (attribute m ms) k h =
      let f = none_both (meaning_unfit m) (attributes_unfit ms) h in
      let front = encoding-front (writes m) (attributes_bytes ms) (small c m k.0 f.0) in
      (writes m, attributes_bytes ms, front, reads-back c m k.0 f.0, attributes-back c ms k.1 f.1)

  pub hops-back : (c : Context) (hs : Hops) → HopsCoherent c hs → hops_unfit hs ≡ None → AreHops c (hops_bytes hs) hs
  hops-back c no_hops k h = refl
  hops-back c (hop g ms hs) k h =
      let len : ℕ = 8 + length (attributes_bytes ms) in
      let f = none_both (option_or (attributes_unfit ms) (hop_overlong len)) (hops_unfit hs) h in
      let i = none_both (attributes_unfit ms) (hop_overlong len) f.0 in
      let front = hop-front g (attributes_bytes ms) (hops_bytes hs) k.0 (hop-short len i.1) (attributes-whole ms) in
      let type : RouteLwEnCapType = first_type c.2 ms in
      let inside : AreAttributes (typed c type) (attributes_bytes ms) ms = attributes-back (typed c type) ms k.1 i.0 in
      let governed : AreGoverned c (attributes_bytes ms) ms = (type, first_governs c.2 (typed c type) (attributes_bytes ms) ms inside, inside) in
      (attributes_bytes ms, hops_bytes hs, front, governed, hops-back c hs k.2 f.1)

-- ---- lengths

mutual
  pub reads-grow : (c : Context) (x : Item) (m : Meaning) → Proper x → Reads c x m → 2 * framed (length (writes m).value) ≤ 5 * (4 + length x.value)
  reads-grow c x (flat m) proper p = (Flats.attributes c).grows x m proper p.1
  reads-grow c x (multi_path hs) proper p = omega (arith, hops-grow c x.value hs proper.value p.1)

  pub attributes-grow : (c : Context) (bytes : List ℕ) (ms : Attributes) → IsBytes bytes → AreAttributes c bytes ms
      → 2 * length (attributes_bytes ms) ≤ 5 * length bytes
  attributes-grow c bytes no_more is p = omega arith
  attributes-grow c bytes (attribute m ms) is (x, r, f, p, ps) =
      let k = Front-proper bytes x r is f in
      let joined = length-append (encoding (writes m)) (attributes_bytes ms) in
      omega (arith, reads-grow c x m k.0 p, attributes-grow c r ms k.1 ps, Front-takes bytes x r f, length-encoding (writes m), joined)

  pub hops-grow : (c : Context) (bytes : List ℕ) (hs : Hops) → IsBytes bytes → AreHops c bytes hs → 2 * length (hops_bytes hs) ≤ 5 * length bytes
  hops-grow c bytes no_hops is p = omega arith
  hops-grow c bytes (hop h ms hs) is (i, r, f, p, ps) =
      let k = HopFront-proper bytes h i r is f in
      let inside = attributes-grow (typed c p.0) i ms k.0 p.2 in
      omega (arith, inside, hops-grow c r hs k.1 ps, HopFront-length bytes h i r f, length-append (attributes_bytes ms) (hops_bytes hs))

-- ---- a level takes twelve bytes, and the outermost eight

mutual
  pub reads-depth : (c : Context) (x : Item) (m : Meaning) → Reads c x m → 12 * depth m ≤ 4 + length x.value
  reads-depth c x (flat m) p = omega arith
  reads-depth c x (multi_path hs) p = hops-depth c x.value hs p.1

  pub attributes-depth : (c : Context) (bytes : List ℕ) (ms : Attributes) → AreAttributes c bytes ms → 12 * attributes_depth ms ≤ length bytes
  attributes-depth c bytes no_more p = omega arith
  attributes-depth c bytes (attribute m ms) (x, r, f, p, ps) = omega (arith, reads-depth c x m p, attributes-depth c r ms ps, Front-takes bytes x r f)

  pub hops-depth : (c : Context) (bytes : List ℕ) (hs : Hops) → AreHops c bytes hs → 12 * hops_depth hs ≤ 4 + length bytes
  hops-depth c bytes no_hops p = omega arith
  hops-depth c bytes (hop h ms hs) (i, r, f, p, ps) =
      omega (arith, attributes-depth (typed c p.0) i ms p.2, hops-depth c r hs ps, HopFront-length bytes h i r f)
