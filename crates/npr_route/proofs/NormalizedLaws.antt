-- Attributes, lists and messages of an older table of SEG6 modes, brought up to the table of today: they are written by the
-- same bytes, and what bytes meant, they mean brought up.
use Rattle.std.specs.Prelude.{map}
use Rattle.std.proofs.Common.{◌≡◌, ℕ, ◌+◌, Bool, true, false, List, [], ◌∷◌, ◌++◌, length, Option, refl, sym, ap, subst, ◌∙◌, rules}
use Rattle.npr_base.specs.declared.refusal.EmitError.{EmitError}
use Rattle.npr_base.specs.Lists.{AllOf, option_or, overlong, too_long, first_unfit, encodings}
use Rattle.npr_base.specs.Framing.{Item, number_of, encoding, marked}
use Rattle.npr_base.proofs.NormalizedLaws.{Normalizes, rows-normalized, has_row-normalized, list-normalized, encodings-normalized, unfit-normalized, again-normalized, all-normalized}
use Rattle.npr_route_values.specs.RouteAddress.{Form, four, sixteen, label, any, form_of}
use Rattle.npr_srh.specs.Seg6Mode.{ModeTable}
use Rattle.npr_encapsulation.specs.Encapsulation as OfEncap
use Rattle.npr_encapsulation.proofs.EncapsulationNormalizedLaws as OfEncapLaws
use Rattle.npr_encapsulation.specs.declared.encap_type.RouteLwEnCapType.{RouteLwEnCapType}
use Rattle.npr_route.specs.Attribute.{hop_text, hop_overlong, Meaning, flat, multi_path, Attributes, no_more, attribute, Hops, no_hops, hop}
use Rattle.npr_route.specs.Attribute.{attributes_of, typed, meaning_type, first_type, ReadsBy, AreAttributesBy, AreHopsBy, Reads, AreAttributes, AreHops}
use Rattle.npr_route.specs.Attribute.{CoherentBy, AttributesCoherentBy, HopsCoherentBy, Coherent, AttributesCoherent, HopsCoherent}
use Rattle.npr_route.specs.Attribute.{writes, attributes_bytes, hops_bytes, meaning_unfit, attributes_unfit, hops_unfit, normalized, attributes_normalized, hops_normalized}
use Rattle.npr_route.specs.FlatAttribute as Flat
use Rattle.npr_route.specs.FlatAttribute.{Context, rows, other, is_multicast, any_marks, marks, new_destination_variant}
use Rattle.npr_route.specs.FlatAttribute.{NewDestinationValue, expires_variant}
use Rattle.npr_route.specs.FlatFamily as Flats
use Rattle.npr_route.specs.AttributeFamily.{writing}
use Rattle.npr_route.specs.Header.{header}
use Rattle.npr_route.proofs.Normalizing.{attributes_of-normalized}
use Rattle.npr_base.specs.Message.{IsMessage, IsCoherent, View, canonical_bytes, message_unfit}
use Rattle.npr_route.specs.Message.{routes, under, normalized_route, IsRouteMessageBy, IsCoherentRouteBy}
use Rattle.npr_encapsulation.specs.declared.encap_type.RouteLwEnCapType.TheVariants.{None as NoEncapsulation}
use Rattle.npr_base.specs.Family.{written_by, unfit_by}
use Rattle.npr_base.specs.Table.{RowReads}

-- ---- members of an encapsulation

member-marks : (x : OfEncap.Meaning) → marks (OfEncap.normalized x) ≡ marks x
member-marks (OfEncap.seg6 m) = refl
member-marks x = refl

members-marks : (xs : List OfEncap.Meaning) → any_marks (map OfEncap.normalized xs) ≡ any_marks xs
members-marks [] = refl
members-marks (x ∷ xs) = rw (member-marks x, members-marks xs) refl

-- ---- an attribute without next hops

encap-item : (xs : List OfEncap.Meaning) → written_by Flat.writing (Flat.encap (map OfEncap.normalized xs)) ≡ written_by Flat.writing (Flat.encap xs)
encap-item xs =
    ap (λ (b : Bool). record { kind = marked b 22; value = encodings (written_by OfEncap.writing) (map OfEncap.normalized xs) }) (members-marks xs)
    ∙ ap (λ (w : List ℕ). record { kind = marked (any_marks xs) 22; value = w }) (encodings-normalized OfEncap.normalized (written_by OfEncap.writing) OfEncapLaws.member-writes xs)

pub flat-writes : (m : Flat.Meaning) → written_by Flat.writing (Flat.normalized m) ≡ written_by Flat.writing m
flat-writes (Flat.encap xs) = encap-item xs
flat-writes m = refl

list-unfit : (u : Option EmitError) (w : List ℕ) → Option EmitError
list-unfit u w = option_or (option_or u (overlong (length w))) (too_long 22 (length w))

pub flat-unfit : (m : Flat.Meaning) → unfit_by Flat.writing (Flat.normalized m) ≡ unfit_by Flat.writing m
unfolding list-unfit
flat-unfit (Flat.encap xs) =
    ap (λ (o : Option EmitError). list-unfit o (encodings (written_by OfEncap.writing) (map OfEncap.normalized xs))) (unfit-normalized OfEncap.normalized (unfit_by OfEncap.writing) OfEncapLaws.member-unfit xs)
    ∙ ap (list-unfit (first_unfit (unfit_by OfEncap.writing) xs)) (encodings-normalized OfEncap.normalized (written_by OfEncap.writing) OfEncapLaws.member-writes xs)
flat-unfit m = refl

pub flat-again : (m : Flat.Meaning) → Flat.normalized (Flat.normalized m) ≡ Flat.normalized m
flat-again (Flat.encap xs) = ap Flat.encap (again-normalized OfEncap.normalized OfEncapLaws.member-again xs)
flat-again m = refl

destination-normalized : (form : Form) (v : NewDestinationValue form) → Flat.normalized (new_destination_variant form v) ≡ new_destination_variant form v
destination-normalized four v = refl
destination-normalized sixteen v = refl
destination-normalized label v = refl
destination-normalized any v = refl

expires-normalized : (multicast : Bool) (v : ℕ) → Flat.normalized (expires_variant multicast v) ≡ expires_variant multicast v
expires-normalized true v = refl
expires-normalized false v = refl

encap-normalized : (by : ModeTable) (type : RouteLwEnCapType) (bytes : List ℕ) (xs : List OfEncap.Meaning)
    → (Flat.encap_row (OfEncap.encapsulation_by by type)).codec.Reads bytes xs
    → RowReads (Flat.encap_row (OfEncap.encapsulation type)) bytes (Flat.normalized (Flat.encap xs))
encap-normalized by type bytes xs p =
    (map OfEncap.normalized xs, list-normalized OfEncap.normalized (OfEncap.encapsulation_by by type).Reads (OfEncap.encapsulation type).Reads (OfEncapLaws.member-read by type) bytes xs p, refl)

normalizes : (by : ModeTable) (form : Form) (multicast : Bool) (type : RouteLwEnCapType)
    → Normalizes Flat.normalized (rows form multicast (OfEncap.encapsulation_by by type)) (rows form multicast (OfEncap.encapsulation type))
normalizes by form multicast type = search (rules, destination-normalized form, expires-normalized multicast, encap-normalized by type)

pub flat-read : (by : ModeTable) (c : Context) (x : Item) (m : Flat.Meaning) → (Flats.attributes_by by c).Reads x m → (Flats.attributes c).Reads x (Flat.normalized m)
flat-read by c x m p =
    rows-normalized Flat.normalized other (λ y. refl) (rows (form_of c.0) (is_multicast c.1) (OfEncap.encapsulation_by by c.2))
    (rows (form_of c.0) (is_multicast c.1) (OfEncap.encapsulation c.2)) (normalizes by (form_of c.0) (is_multicast c.1) c.2) (number_of x.kind) x m p

coherent-in : (by : ModeTable) (form : Form) (multicast : Bool) (type : RouteLwEnCapType) (m : Flat.Meaning)
    → Flat.Coherent form multicast (OfEncap.encapsulation_by by type) m → Flat.Coherent form multicast (OfEncap.encapsulation type) (Flat.normalized m)
coherent-in by form multicast type (Flat.encap xs) k =
    all-normalized OfEncap.normalized (OfEncap.encapsulation_by by type).Coherent (OfEncap.encapsulation type).Coherent (OfEncapLaws.member-coherent by type) xs k
coherent-in by form multicast type (Flat.other x) k = record {
  proper = k.proper;
  alone = sym (has_row-normalized Flat.normalized (rows form multicast (OfEncap.encapsulation_by by type)) (rows form multicast (OfEncap.encapsulation type)) (normalizes by form multicast type) (number_of x.kind)) ∙ k.alone;
}
coherent-in by form multicast type m k = k

pub flat-coherent : (by : ModeTable) (c : Context) (m : Flat.Meaning) → (Flats.attributes_by by c).Coherent m → (Flats.attributes c).Coherent (Flat.normalized m)
flat-coherent by c m k = coherent-in by (form_of c.0) (is_multicast c.1) c.2 m k

-- ---- attributes and next hops

mutual
  pub writes-normalized : (m : Meaning) → writes (normalized m) ≡ writes m
  writes-normalized (flat m) = flat-writes m
  writes-normalized (multi_path hs) = ap (λ (w : List ℕ). record { kind = 9; value = w }) (hops_bytes-normalized hs)

  pub attributes_bytes-normalized : (ms : Attributes) → attributes_bytes (attributes_normalized ms) ≡ attributes_bytes ms
  attributes_bytes-normalized no_more = refl
  attributes_bytes-normalized (attribute m ms) =
      ap (λ (i : Item). encoding i ++ attributes_bytes (attributes_normalized ms)) (writes-normalized m)
      ∙ ap (λ (w : List ℕ). encoding (writes m) ++ w) (attributes_bytes-normalized ms)

  pub hops_bytes-normalized : (hs : Hops) → hops_bytes (hops_normalized hs) ≡ hops_bytes hs
  hops_bytes-normalized no_hops = refl
  hops_bytes-normalized (hop h ms hs) =
      ap (λ (w : List ℕ). hop_text h w ++ hops_bytes (hops_normalized hs)) (attributes_bytes-normalized ms)
      ∙ ap (λ (w : List ℕ). hop_text h (attributes_bytes ms) ++ w) (hops_bytes-normalized hs)

mutual
  pub meaning_unfit-normalized : (m : Meaning) → meaning_unfit (normalized m) ≡ meaning_unfit m
  meaning_unfit-normalized (flat m) = flat-unfit m
  meaning_unfit-normalized (multi_path hs) =
      ap (λ (o : Option EmitError). option_or (option_or o (overlong (length (hops_bytes (hops_normalized hs))))) (too_long 9 (length (hops_bytes (hops_normalized hs))))) (hops_unfit-normalized hs)
      ∙ ap (λ (w : List ℕ). option_or (option_or (hops_unfit hs) (overlong (length w))) (too_long 9 (length w))) (hops_bytes-normalized hs)

  pub attributes_unfit-normalized : (ms : Attributes) → attributes_unfit (attributes_normalized ms) ≡ attributes_unfit ms
  attributes_unfit-normalized no_more = refl
  attributes_unfit-normalized (attribute m ms) =
      ap (λ (o : Option EmitError). option_or o (attributes_unfit (attributes_normalized ms))) (meaning_unfit-normalized m)
      ∙ ap (option_or (meaning_unfit m)) (attributes_unfit-normalized ms)

  pub hops_unfit-normalized : (hs : Hops) → hops_unfit (hops_normalized hs) ≡ hops_unfit hs
  hops_unfit-normalized no_hops = refl
  hops_unfit-normalized (hop h ms hs) =
      ap (λ (o : Option EmitError). option_or (option_or o (hop_overlong (8 + length (attributes_bytes (attributes_normalized ms))))) (hops_unfit (hops_normalized hs))) (attributes_unfit-normalized ms)
      ∙ ap (λ (w : List ℕ). option_or (option_or (attributes_unfit ms) (hop_overlong (8 + length w))) (hops_unfit (hops_normalized hs))) (attributes_bytes-normalized ms)
      ∙ ap (option_or (option_or (attributes_unfit ms) (hop_overlong (8 + length (attributes_bytes ms))))) (hops_unfit-normalized hs)

mutual
  pub normalized-again : (m : Meaning) → normalized (normalized m) ≡ normalized m
  normalized-again (flat m) = ap flat (flat-again m)
  normalized-again (multi_path hs) = ap multi_path (hops_normalized-again hs)

  pub attributes_normalized-again : (ms : Attributes) → attributes_normalized (attributes_normalized ms) ≡ attributes_normalized ms
  attributes_normalized-again no_more = refl
  attributes_normalized-again (attribute m ms) =
      ap (λ (n : Meaning). attribute n (attributes_normalized (attributes_normalized ms))) (normalized-again m) ∙ ap (attribute (normalized m)) (attributes_normalized-again ms)

  pub hops_normalized-again : (hs : Hops) → hops_normalized (hops_normalized hs) ≡ hops_normalized hs
  hops_normalized-again no_hops = refl
  hops_normalized-again (hop h ms hs) =
      ap (λ (ns : Attributes). hop h ns (hops_normalized (hops_normalized hs))) (attributes_normalized-again ms) ∙ ap (hop h (attributes_normalized ms)) (hops_normalized-again hs)

-- the type that governs stays
type-normalized : (m : Meaning) → meaning_type (normalized m) ≡ meaning_type m
type-normalized (flat (Flat.encap xs)) = refl
type-normalized (flat (Flat.encap_type t)) = refl
type-normalized (flat m) = refl
type-normalized (multi_path hs) = refl

pub first_type-normalized : (outer : RouteLwEnCapType) (ms : Attributes) → first_type outer (attributes_normalized ms) ≡ first_type outer ms
first_type-normalized outer no_more = refl
first_type-normalized outer (attribute m ms) = rw (type-normalized m, first_type-normalized outer ms) refl

mutual
  pub reads-normalized : (by : ModeTable) (c : Context) (x : Item) (m : Meaning) → ReadsBy by c x m → Reads c x (normalized m)
  reads-normalized by c x (flat m) p = (p.0, flat-read by c x m p.1)
  reads-normalized by c x (multi_path hs) p = (p.0, hops-normalized by c x.value hs p.1)

  pub attributes-normalized : (by : ModeTable) (c : Context) (bytes : List ℕ) (ms : Attributes) → AreAttributesBy by c bytes ms → AreAttributes c bytes (attributes_normalized ms)
  attributes-normalized by c bytes no_more p = p
  attributes-normalized by c bytes (attribute m ms) (x, rest, f, p, ps) = (x, rest, f, reads-normalized by c x m p, attributes-normalized by c rest ms ps)

  pub hops-normalized : (by : ModeTable) (c : Context) (bytes : List ℕ) (hs : Hops) → AreHopsBy by c bytes hs → AreHops c bytes (hops_normalized hs)
  hops-normalized by c bytes no_hops p = p
  hops-normalized by c bytes (hop h ms hs) (inside, rest, f, p, ps) =
      (inside, rest, f, (p.0, p.1, attributes-normalized by (typed c p.0) inside ms p.2), hops-normalized by c rest hs ps)

mutual
  pub coherent-normalized : (by : ModeTable) (c : Context) (m : Meaning) → CoherentBy by c m → Coherent c (normalized m)
  coherent-normalized by c (flat m) k = (flat-coherent by c m k.0, λ e. k.1 (sym (ap (λ (i : Item). number_of i.kind) (flat-writes m)) ∙ e))
  coherent-normalized by c (multi_path hs) k = hops_coherent-normalized by c hs k

  pub attributes_coherent-normalized : (by : ModeTable) (c : Context) (ms : Attributes) → AttributesCoherentBy by c ms → AttributesCoherent c (attributes_normalized ms)
  attributes_coherent-normalized by c no_more k = tt
  attributes_coherent-normalized by c (attribute m ms) k = (coherent-normalized by c m k.0, attributes_coherent-normalized by c ms k.1)

  pub hops_coherent-normalized : (by : ModeTable) (c : Context) (hs : Hops) → HopsCoherentBy by c hs → HopsCoherent c (hops_normalized hs)
  hops_coherent-normalized by c no_hops k = tt
  hops_coherent-normalized by c (hop h ms hs) k =
      let first : first_type c.2 (attributes_normalized ms) ≡ first_type c.2 ms = first_type-normalized c.2 ms in
      let inside = attributes_coherent-normalized by (typed c (first_type c.2 ms)) ms k.1 in
      (k.0, subst (λ (t : RouteLwEnCapType). AttributesCoherent (typed c t) (attributes_normalized ms)) (sym first) inside, hops_coherent-normalized by c hs k.2)

-- ---- lists and messages

first_in_list : (outer : RouteLwEnCapType) (xs : List Meaning) → first_type outer (attributes_of (map normalized xs)) ≡ first_type outer (attributes_of xs)
first_in_list outer xs = ap (first_type outer) (attributes_of-normalized xs) ∙ first_type-normalized outer (attributes_of xs)

pub message-bytes : (m : View routes) → canonical_bytes routes (normalized_route m) ≡ canonical_bytes routes m
unfolding canonical_bytes
message-bytes m = ap (λ (w : List ℕ). header.encode m.header ++ w) (encodings-normalized normalized (written_by writing) writes-normalized m.attributes)

pub message-unfit : (m : View routes) → message_unfit routes (normalized_route m) ≡ message_unfit routes m
unfolding canonical_bytes message_unfit
message-unfit m =
    ap (λ (o : Option EmitError). option_or o (overlong (length (canonical_bytes routes (normalized_route m))))) (unfit-normalized normalized (unfit_by writing) meaning_unfit-normalized m.attributes)
    ∙ ap (λ (w : List ℕ). option_or (first_unfit (unfit_by writing) m.attributes) (overlong (length w))) (message-bytes m)

pub message-again : (m : View routes) → normalized_route (normalized_route m) ≡ normalized_route m
message-again m = ap (λ (xs : List Meaning). record { header = m.header; attributes = xs }) (again-normalized normalized normalized-again m.attributes)

pub message-coherent : (by : ModeTable) (m : View routes) → IsCoherentRouteBy by m → IsCoherent routes (normalized_route m)
unfolding IsCoherentRouteBy IsCoherent
message-coherent by m k =
    let (family, kind) = under m.header in
    let type : RouteLwEnCapType = first_type NoEncapsulation (attributes_of m.attributes) in
    let all = all-normalized normalized (CoherentBy by (family, kind, type)) (Coherent (family, kind, type)) (coherent-normalized by (family, kind, type)) m.attributes k.attributes in
    let first : first_type NoEncapsulation (attributes_of (map normalized m.attributes)) ≡ type = first_in_list NoEncapsulation m.attributes in
    record {
      header = k.header;
      attributes = subst (λ (t : RouteLwEnCapType). AllOf (Coherent (family, kind, t)) (map normalized m.attributes)) (sym first) all;
    }

pub message-read : (by : ModeTable) (bytes : List ℕ) (m : View routes) → IsRouteMessageBy by bytes m → IsMessage routes bytes (normalized_route m)
unfolding IsRouteMessageBy IsMessage
message-read by bytes m p =
    let (family, kind) = under m.header in
    let c : Context = (family, kind, p.attributes.0) in
    record {
      front = p.front;
      rest = p.rest;
      is = p.is;
      size = p.size;
      header = p.header;
      attributes = (p.attributes.0, p.attributes.1, list-normalized normalized (ReadsBy by c) (Reads c) (reads-normalized by c) p.rest m.attributes p.attributes.2);
    }
