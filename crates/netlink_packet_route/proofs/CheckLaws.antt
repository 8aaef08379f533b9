-- Lists of attributes and next hops in them, read one after the other.
--     Leads                     what the bytes that are left are decides what all are
use Rattle.std.specs.Prelude.{◌≡◌, ◌≢◌, ℕ, ◌<◌, ◌≤◌, true, List, [], ◌∷◌, length}
use Rattle.std.proofs.Common.{refl, sym, subst, arith, inl, inr}
use Rattle.std.proofs.lemmas.Bool.{eqb-true}
use Rattle.npr_base.specs.declared.refusal.DecodeError.{DecodeError}
use Rattle.npr_base.specs.Framing.{Item, Front, Fault, Passes, number_of}
use Rattle.npr_base.specs.lemmas.Front.{Front-shrinks}
use Rattle.npr_base.specs.Lists.{Each, IsWrong}
use Rattle.npr_route.specs.Attribute.{HopHead, HopFront, HopFault, Meaning, flat, multi_path, Attributes, attributes_of, no_hops, hop, Reads}
use Rattle.npr_route.specs.Attribute.{AreGoverned, Wrong, value_wrong, hops_wrong, AttributesWrong, none_in_front, first_wrong, later_wrong, governed_wrong}
use Rattle.npr_route.specs.Attribute.{HopsWrong, no_hop_in_front, first_hop_wrong, later_hop_wrong}
use Rattle.npr_route.specs.AttributeFamily.{attributes}
use Rattle.npr_route.specs.FlatAttribute as Flat
use Rattle.npr_route.specs.FlatAttribute.{Context}
use Rattle.npr_route.specs.lemmas.Governing.{all_read}
use Rattle.npr_base.specs.Table.{Row, ReadsAt, WrongAt}
use Rattle.npr_route_values.specs.RouteAddress.{form_of as address_form}
use Rattle.npr_route_values.specs.RouteVia.{Via, via_value}
use Rattle.npr_base.specs.Refusal.{at_number}
use Rattle.npr_base.specs.declared.attribute_set.AttributeSet.{AttributeSet}
use Rattle.npr_base.specs.declared.attribute_set.AttributeSet.TheVariants.{Route}
use Rattle.npr_encapsulation.specs.Encapsulation.{encapsulation}
use Rattle.netlink_packet_route.specs.Nests.{reading_of, HopUnder, hop_nest, holds_hops}
use Rattle.netlink_packet_route.specs.declared.context.Context.{Context as Outside}
use Rattle.netlink_packet_route.specs.declared.nests.Nest.{Nest}
use Rattle.netlink_packet_route.specs.NestLists.{IsAttributeAt, IsListAt, ListFaultAt, of_route, HopsOf, HopsWrongOf}

pub record Leads (Is : List ℕ → Type 0) (Faulty : List ℕ → DecodeError → Type 0) (bytes rest : List ℕ) : Type 0 where
  pub within : length rest ≤ length bytes
  pub is : Is rest → Is bytes
  pub faulty : (e : DecodeError) → Faulty rest e → Faulty bytes e

pub leads-all : (Is : List ℕ → Type 0) (Faulty : List ℕ → DecodeError → Type 0) (bytes : List ℕ) → Leads Is Faulty bytes bytes
leads-all Is Faulty bytes = record { within = omega arith; is = λ p. p; faulty = λ e p. p }

-- ---- lists

module _ (nest : Nest) where
  pub list-ends : (rest : List ℕ) → rest ≡ [] → IsListAt nest rest
  list-ends rest end = ([], ([], end, tt))

  pub list-stops : (rest : List ℕ) (e : DecodeError) → 0 < length rest → Fault rest e → ListFaultAt nest rest e
  list-stops rest e left bad = ([], rest, ([], refl, tt), inl (left, bad))

  pub list-wrong : (rest more : List ℕ) (x : Item) (e : DecodeError) → Front rest x more → (reading_of nest).reading.Faulty x e → ListFaultAt nest rest e
  list-wrong rest more x e front bad = ([], rest, ([], refl, tt), inr (x, more, front, bad))

  pub list-more : (bytes rest more : List ℕ) (x : Item) → Leads (IsListAt nest) (ListFaultAt nest) bytes rest → Front rest x more
      → IsAttributeAt nest x → Leads (IsListAt nest) (ListFaultAt nest) bytes more
  list-more bytes rest more x past front (m, reads) = record {
    within = omega (arith, past.within, Front-shrinks rest x more front);
    is = λ (ms, (items, passes, each)). past.is (m ∷ ms, (x ∷ items, (more, front, passes), (reads, each)));
    faulty = λ e (ms, left, (items, passes, each), bad). past.faulty e (m ∷ ms, left, (x ∷ items, (more, front, passes), (reads, each)), bad);
  }

-- ---- next hops

attributes-wrong : (c : Context) (bytes : List ℕ) (items : List Item) (ms : List Meaning) (rest : List ℕ) (e : DecodeError) → Passes bytes items rest
    → Each (Reads c) items ms → IsWrong (Wrong c) rest e → AttributesWrong c bytes e
attributes-wrong c bytes [] [] rest e passes each (inl (left, bad)) = subst (λ (b : List ℕ). AttributesWrong c b e) (sym passes) (none_in_front left bad)
attributes-wrong c bytes [] [] rest e passes each (inr (x, more, front, bad)) =
    subst (λ (b : List ℕ). AttributesWrong c b e) (sym passes) (first_wrong x more front bad)
attributes-wrong c bytes [] (m ∷ ms) rest e passes each bad = absurd each
attributes-wrong c bytes (x ∷ items) [] rest e passes each bad = absurd each
attributes-wrong c bytes (x ∷ items) (m ∷ ms) rest e (more, front, passes) (reads, each) bad =
    later_wrong x more m front reads (attributes-wrong c more items ms rest e passes each bad)

module _ (c : Outside) (inside : List ℕ) (inner : Nest) (under : HopUnder Route c inside inner) where
  governed : IsListAt inner inside → (ms : Attributes) × AreGoverned (of_route c) inside ms
  governed list =
      let (type, governs, is) = under in
      let found : IsListAt (hop_nest c type) inside = subst (λ (n : Nest). IsListAt n inside) is list in
      (attributes_of found.0, (type, governs, all_read (c.family, c.route_type, type) inside found.0 found.1))

  pub route-hop-more : (bytes rest more : List ℕ) (h : HopHead) → Leads (HopsOf Route c) (HopsWrongOf Route c) bytes rest
      → HopFront rest h inside more → length more ≤ length rest → IsListAt inner inside
      → Leads (HopsOf Route c) (HopsWrongOf Route c) bytes more
  route-hop-more bytes rest more h past front fewer list =
      let (ms, are) = governed list in
      record {
        within = omega (arith, past.within, fewer);
        is = λ (hs, behind). past.is (hop h ms hs, (inside, more, front, are, behind));
        faulty = λ e bad. past.faulty e (later_hop_wrong h inside more ms front are bad);
      }

  pub route-hop-wrong : (rest more : List ℕ) (h : HopHead) (e : DecodeError) → HopFront rest h inside more → ListFaultAt inner inside e
      → HopsWrong (of_route c) rest e
  route-hop-wrong rest more h e front bad =
      let (type, governs, is) = under in
      let found : ListFaultAt (hop_nest c type) inside e = subst (λ (n : Nest). ListFaultAt n inside e) is bad in
      let (ms, left, (items, passes, each), wrong) = found in
      first_hop_wrong h inside more front
      (governed_wrong type governs (attributes-wrong (c.family, c.route_type, type) inside items ms left e passes each wrong))

nothing-more : (bytes rest more : List ℕ) (Is : List ℕ → Type 0) (Faulty : List ℕ → DecodeError → Type 0) → length rest ≤ length bytes
    → length more ≤ length rest → Is bytes → ((e : DecodeError) → Faulty bytes e) → Leads Is Faulty bytes more
nothing-more bytes rest more Is Faulty within fewer is faulty = record { within = omega (arith, within, fewer); is = λ p. is; faulty = λ e p. faulty e }

module _ (bytes rest inside more : List ℕ) (h : HopHead) (inner : Nest) (c : Outside) where
  pub hop-more : (set : AttributeSet) → HopUnder set c inside inner → Leads (HopsOf set c) (HopsWrongOf set c) bytes rest → HopFront rest h inside more
      → length more ≤ length rest → IsListAt inner inside → Leads (HopsOf set c) (HopsWrongOf set c) bytes more
  hop-more Route under past front fewer list = route-hop-more c inside inner under bytes rest more h past front fewer list
  hop-more set under past front fewer list = nothing-more bytes rest more (HopsOf set c) (HopsWrongOf set c) past.within fewer tt (λ e. tt)

  pub hop-wrong : (set : AttributeSet) (e : DecodeError) → HopUnder set c inside inner → HopFront rest h inside more → ListFaultAt inner inside e
      → HopsWrongOf set c rest e
  hop-wrong Route e under front bad = route-hop-wrong c inside inner under rest more h e front bad
  hop-wrong set e under front bad = tt

pub hops-end : (set : AttributeSet) (c : Outside) (rest : List ℕ) → rest ≡ [] → HopsOf set c rest
hops-end Route c rest end = (no_hops, end)
hops-end set c rest end = tt

pub hops-stop : (set : AttributeSet) (c : Outside) (rest : List ℕ) (e : DecodeError) → 0 < length rest → HopFault rest e → HopsWrongOf set c rest e
hops-stop Route c rest e left bad = no_hop_in_front left bad
hops-stop set c rest e left bad = tt

-- ---- attributes

pub hops-read : (set : AttributeSet) (c : Outside) (x : Item) → holds_hops set (number_of x.kind) ≡ true → HopsOf set c x.value
    → IsAttributeAt (record { set = set; context = c }) x
hops-read Route c x nine (hs, are) = (multi_path hs, (eqb-true (number_of x.kind) 9 nine, are))
hops-read set c x nine are = absurd cc

pub hops-faulty : (set : AttributeSet) (c : Outside) (x : Item) (e : DecodeError) → holds_hops set (number_of x.kind) ≡ true → HopsWrongOf set c x.value e
    → (reading_of (record { set = set; context = c })).reading.Faulty x e
hops-faulty Route c x e nine bad = hops_wrong (eqb-true (number_of x.kind) 9 nine) bad
hops-faulty set c x e nine bad = absurd cc

module _ (c : Context) (x : Item) (via : number_of x.kind ≡ 18) where
  abbrev rows : List (Row Flat.Meaning)
  rows = Flat.rows (address_form c.0) (Flat.is_multicast c.1) (encapsulation c.2)

  other : number_of x.kind ≢ 9
  other nine = omega (arith, via, nine)

  pub gateway-read : (v : Via) → via_value.Reads x.value v → (m : Meaning) × (attributes c).Reads x m
  gateway-read v reads =
      let row : ReadsAt Flat.other rows 18 x (Flat.via v) = (v, reads, refl) in
      (flat (Flat.via v), (other, subst (λ (n : ℕ). ReadsAt Flat.other rows n x (Flat.via v)) (sym via) row))

  pub gateway-faulty : (e : DecodeError) → via_value.Wrong (at_number Route 18) x.value e → (attributes c).Faulty x e
  gateway-faulty e bad =
      let row : WrongAt rows 18 x e = bad in
      value_wrong other (subst (λ (n : ℕ). WrongAt rows n x e) (sym via) row)
