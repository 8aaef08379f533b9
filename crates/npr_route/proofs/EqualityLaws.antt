-- What `==` answers of metrics, attributes, next hops and messages: whether they mean the same.
use Rattle.std.specs.Prelude.{◌≡◌, ℕ, ◌+◌, ◌*◌, ◌^◌, Bool, false, List, [], ◌∷◌, map, nat_lt}
use Rattle.std.specs.Bool.{Decides}
use Rattle.std.specs.Cmp.{unsigned_Decides}
use Rattle.std.specs.Cmp.Lexicographic.{pointwise}
use Rattle.std.specs.List.{count_by}
use Rattle.std.specs.declared.alloc.Global.{Global}
use Rattle.std.specs.declared.vec.Vec.{Vec}
use Rattle.std.proofs.Common.{refl, sym, ap, ◌∙◌}
use Rattle.npr_base.proofs.AddressFamilyLaws.{family_equality}
use Rattle.npr_base.specs.Equality.{IsEquality, IsEqualityOf}
use Rattle.npr_base.specs.ViewEquality.{item_equality}
use Rattle.npr_base.specs.EnumTable.{◌also◌}
use Rattle.npr_base.specs.Table.{Row, slot_kind}
use Rattle.npr_base.specs.Tables.{table_decides}
use Rattle.npr_base.proofs.MeaningLaws.{enum_meaning_at, one_meaning, one_meaning_by, text_equality, items_equality, items_meaning}
use Rattle.npr_base.proofs.EqualityLaws.{one_equality}
use Rattle.npr_base.proofs.StructLaws.{◌beside◌, struct_equality, and_decides, decides_as}
use Rattle.npr_route_values.proofs.EqualityLaws.{address_equality, cache_info_equality, label_equality, mfc_stats_equality, realm_equality, route_flags_equality, via_equality, route_protocol_equality, route_scope_equality, route_type_equality, route_preference_equality, ttl_propagation_equality}
use Rattle.npr_route_values.specs.RouteAddress.{address_of, any}
use Rattle.npr_route_values.specs.RouteVia.{via_of}
use Rattle.npr_encapsulation.specs.Encapsulation as OfEncap
use Rattle.npr_encapsulation.specs.declared.encap_type.RouteLwEnCapType.TheVariants.{None as NoEncapsulation}
use Rattle.npr_encapsulation.proofs.EqualityLaws.{encap_type_equality, encap_equality}
use Rattle.npr_route.specs.contracts.header.RouteHeader.{struct}
use Rattle.npr_route.specs.Attribute.{Meaning, flat, multi_path, Attributes, no_more, attribute, Hops, no_hops, hop, Hop, attributes_of}
use Rattle.npr_route.specs.AttributeView.{hops_of, attribute_step, hop_step, meaning_of, hop_of}
use Rattle.npr_route.specs.FlatAttribute as Flat
use Rattle.npr_route.specs.Metric as Metrics
use Rattle.npr_route.specs.contracts.attribute.RouteAttribute.{enum}
use Rattle.npr_route.specs.contracts.attribute.RouteAttributePartialEq.TheImpl as AttributeEq
use Rattle.npr_route.specs.contracts.attribute.RouteAttributePartialEq.TheImpl.Laws as AttributeLaws
use Rattle.npr_route.specs.contracts.header.RouteHeaderPartialEq.TheImpl as HeaderEq
use Rattle.npr_route.specs.contracts.metrics.RouteMetricPartialEq.TheImpl as MetricEq
use Rattle.npr_route.specs.contracts.next_hops.RouteNextHopPartialEq.TheImpl as HopEq
use Rattle.npr_route.specs.contracts.next_hops.RouteNextHopPartialEq.TheImpl.Laws as HopLaws
use Rattle.npr_route.specs.declared.attribute.RouteAttribute.{RouteAttribute, out-RouteAttribute}
use Rattle.npr_route.specs.declared.attribute.RouteAttribute.TheFolds.{map-RouteAttribute, fold_out-RouteAttribute}
use Rattle.npr_route.specs.declared.attribute.RouteAttribute.TheVariants.{MultiPath}
use Rattle.npr_route.specs.declared.next_hops.RouteNextHop.{RouteNextHop}
use Rattle.npr_route.proofs.Views.{view_hop, view_multi_path}
use denote.Hole.Carrier

pub header_equality : IsEquality HeaderEq.ghosts.eq
header_equality =
    struct_equality struct (λ v. tt) (λ d. refl)
    (family_equality beside unsigned_Decides beside unsigned_Decides beside unsigned_Decides beside unsigned_Decides
    beside route_protocol_equality beside route_scope_equality beside route_type_equality beside one_equality route_flags_equality)

pub metric_equality : IsEqualityOf Metrics.family.meaning MetricEq.ghosts.eq
metric_equality = table_decides Metrics.table _ (search (unsigned_Decides, text_equality, item_equality) depth 40)

-- a number for each variant: twice that of the attribute, and one more for the second of two variants that share it
variant_number : Meaning → ℕ
variant_number (multi_path hs) = 2 * 9
variant_number (flat (Flat.new_destination_address a)) = 2 * 19 + 1
variant_number (flat (Flat.multicast_expires a)) = 2 * 23 + 1
variant_number (flat (Flat.other x)) = 2 * 2 ^ 16
variant_number (flat m) = 2 * slot_kind (Flat.slot_of m)

variant_numbers : List ℕ
variant_numbers =
    (2 * 9) ∷ (2 * 19 + 1) ∷ (2 * 23 + 1) ∷ map (λ (r : Row Flat.Meaning). 2 * r.at.number) (Flat.rows any false (OfEncap.encapsulation NoEncapsulation))

-- the place of a variant in the enum: so many have a lower number
order : Meaning → ℕ
order m = count_by (λ k. nat_lt k (variant_number m)) variant_numbers

abbrev same : RouteAttribute → RouteAttribute → Bool
same = AttributeEq.ghosts.eq

abbrev same_hop : RouteNextHop → RouteNextHop → Bool
same_hop = HopEq.ghosts.eq

abbrev attributes_in : List RouteAttribute → Attributes
attributes_in xs = attributes_of (map meaning_of xs)

abbrev hops_in : List RouteNextHop → Hops
hops_in xs = hops_of (map hop_of xs)

abbrev AttributesDecide : List RouteAttribute → List RouteAttribute → Type 0
AttributesDecide xs ys = Decides (pointwise same xs ys) (attributes_in xs ≡ attributes_in ys)

abbrev HopsDecide : List RouteNextHop → List RouteNextHop → Type 0
HopsDecide xs ys = Decides (pointwise same_hop xs ys) (hops_in xs ≡ hops_in ys)

-- what an attribute means, by its outermost layer
abbrev outermost : RouteAttribute → Meaning
outermost a = attribute_step (map-RouteAttribute RouteAttribute RouteNextHop Meaning Hop meaning_of hop_of (out-RouteAttribute a))

outermost_is : (a : RouteAttribute) → meaning_of a ≡ outermost a
outermost_is = fold_out-RouteAttribute Meaning Hop attribute_step hop_step

outermost_multi_path : (v : Vec RouteNextHop Global) → outermost (MultiPath v) ≡ multi_path (hops_in v.items)
outermost_multi_path v = sym (outermost_is (MultiPath v)) ∙ view_multi_path v

-- `==` of two attributes, the first of which means t, from what it answers of next hops
attribute_layer :
    (t : Meaning) → ((v w : Vec RouteNextHop Global) → multi_path (hops_in v.items) ≡ t → HopsDecide v.items w.items) → (a b : RouteAttribute) → meaning_of a ≡ t
    → Decides (same a b) (meaning_of a ≡ meaning_of b)
unfolding order variant_number variant_numbers out-RouteAttribute Carrier.out
attribute_layer t inside a b is =
    let h = enum_meaning_at order t enum outermost _ (
    (λ x. refl, one_meaning address_of (λ a. flat (Flat.destination a)) address_equality (λ p q e. cc)) also
    (λ x. refl, one_meaning address_of (λ a. flat (Flat.source a)) address_equality (λ p q e. cc)) also
    (λ x. refl, one_meaning (λ n. n) (λ a. flat (Flat.iif a)) unsigned_Decides (λ p q e. cc)) also
    (λ x. refl, one_meaning (λ n. n) (λ a. flat (Flat.oif a)) unsigned_Decides (λ p q e. cc)) also
    (λ x. refl, one_meaning address_of (λ a. flat (Flat.gateway a)) address_equality (λ p q e. cc)) also
    (λ x. refl, one_meaning (λ n. n) (λ a. flat (Flat.priority a)) unsigned_Decides (λ p q e. cc)) also
    (λ x. refl, one_meaning address_of (λ a. flat (Flat.pref_source a)) address_equality (λ p q e. cc)) also
    (λ x. refl, one_meaning (λ v. map Metrics.family.meaning v.items) (λ a. flat (Flat.metrics a)) (items_meaning Metrics.family.meaning metric_equality) (λ p q e. cc)) also
    (λ x. ap order (outermost_multi_path x.0), one_meaning_by (λ (v : Vec RouteNextHop Global). hops_in v.items) multi_path (λ v. outermost (MultiPath v)) outermost_multi_path (λ p q e. cc) inside) also
    (λ x. refl, one_meaning (λ f. f) (λ a. flat (Flat.realm a)) realm_equality (λ p q e. cc)) also
    (λ x. refl, one_meaning (λ f. f) (λ a. flat (Flat.cache_info a)) cache_info_equality (λ p q e. cc)) also
    (λ x. refl, one_meaning (λ n. n) (λ a. flat (Flat.table a)) unsigned_Decides (λ p q e. cc)) also
    (λ x. refl, one_meaning (λ n. n) (λ a. flat (Flat.mark a)) unsigned_Decides (λ p q e. cc)) also
    (λ x. refl, one_meaning (λ f. f) (λ a. flat (Flat.mfc_stats a)) mfc_stats_equality (λ p q e. cc)) also
    (λ x. refl, one_meaning via_of (λ a. flat (Flat.via a)) via_equality (λ p q e. cc)) also
    (λ x. refl, one_meaning (λ v. v.items) (λ a. flat (Flat.new_destination a)) (items_equality label_equality) (λ p q e. cc)) also
    (λ x. refl, one_meaning address_of (λ a. flat (Flat.new_destination_address a)) address_equality (λ p q e. cc)) also
    (λ x. refl, one_meaning (λ f. f) (λ a. flat (Flat.preference a)) route_preference_equality (λ p q e. cc)) also
    (λ x. refl, one_meaning (λ f. f) (λ a. flat (Flat.encap_type a)) encap_type_equality (λ p q e. cc)) also
    (λ x. refl, one_meaning (λ v. map OfEncap.meaning_of v.items) (λ a. flat (Flat.encap a)) (items_meaning OfEncap.meaning_of encap_equality) (λ p q e. cc)) also
    (λ x. refl, one_meaning (λ n. n) (λ a. flat (Flat.expires a)) unsigned_Decides (λ p q e. cc)) also
    (λ x. refl, one_meaning (λ n. n) (λ a. flat (Flat.multicast_expires a)) unsigned_Decides (λ p q e. cc)) also
    (λ x. refl, one_meaning (λ n. n) (λ a. flat (Flat.uid a)) unsigned_Decides (λ p q e. cc)) also
    (λ x. refl, one_meaning (λ f. f) (λ a. flat (Flat.ttl_propagate a)) ttl_propagation_equality (λ p q e. cc)) also
    (λ x. refl, one_meaning (λ n. n) (λ a. flat (Flat.ip_proto a)) unsigned_Decides (λ p q e. cc)) also
    (λ x. refl, one_meaning (λ n. n) (λ a. flat (Flat.sport a)) unsigned_Decides (λ p q e. cc)) also
    (λ x. refl, one_meaning (λ n. n) (λ a. flat (Flat.dport a)) unsigned_Decides (λ p q e. cc)) also
    (λ x. refl, one_meaning (λ n. n) (λ a. flat (Flat.nh_id a)) unsigned_Decides (λ p q e. cc)) also
    (λ x. refl, one_meaning (λ n. n) (λ a. flat (Flat.flowlabel a)) unsigned_Decides (λ p q e. cc)) also
    (λ x. refl, one_meaning (λ d. d) (λ a. flat (Flat.other a)) item_equality (λ p q e. cc)) also tt) a b (sym (outermost_is a) ∙ is) in
    let p = AttributeLaws.is a b in
    let q = outermost_is a in
    let r = outermost_is b in
    (λ e. q ∙ h.0 (sym p ∙ e) ∙ sym r, λ e. p ∙ h.1 (sym q ∙ e ∙ r))

-- `==` of two next hops, from what it answers of their attributes
hop_layer : (g h : RouteNextHop) → AttributesDecide g.attributes.items h.attributes.items → Decides (same_hop g h) (hop_of g ≡ hop_of h)
hop_layer g h inside =
    let p = HopLaws.is g h in
    let q = view_hop g in
    let r = view_hop h in
    let fields =
    decides_as
    (λ (flags, (hops, (interface, attributes))). λ i. record { head = record { flags = flags i; hops = hops i; interface_index = interface i }; attributes = attributes i })
    (λ e. (ap (λ (k : Hop). k.head.flags) e, (ap (λ (k : Hop). k.head.hops) e, (ap (λ (k : Hop). k.head.interface_index) e, ap (λ (k : Hop). k.attributes) e))))
    (and_decides (unsigned_Decides g.flags.0 h.flags.0)
    (and_decides (unsigned_Decides g.hops h.hops) (and_decides (unsigned_Decides g.interface_index h.interface_index) inside))) in
    (λ e. q ∙ fields.0 (sym p ∙ e) ∙ sym r, λ e. p ∙ fields.1 (sym q ∙ e ∙ r))

-- the recursion goes down what the first of the two means
mutual
  attribute_at : (t : Meaning) (a b : RouteAttribute) → meaning_of a ≡ t → Decides (same a b) (meaning_of a ≡ meaning_of b)
  attribute_at (flat m) = attribute_layer (flat m) (λ v w e. absurd cc)
  attribute_at (multi_path hs) = attribute_layer (multi_path hs) (λ v w e. hops_at hs v.items w.items cc)

  attributes_at : (ts : Attributes) (xs ys : List RouteAttribute) → attributes_in xs ≡ ts → AttributesDecide xs ys
  attributes_at ts [] [] is = (λ e. refl, λ e. refl)
  attributes_at ts [] (y ∷ ys) is = (λ e. absurd cc, λ e. absurd cc)
  attributes_at ts (x ∷ xs) [] is = (λ e. absurd cc, λ e. absurd cc)
  attributes_at no_more (x ∷ xs) (y ∷ ys) is = absurd cc
  attributes_at (attribute t ts) (x ∷ xs) (y ∷ ys) is =
      decides_as (λ e. λ i. attribute (e.0 i) (e.1 i)) (λ e. (cc, cc)) (and_decides (attribute_at t x y cc) (attributes_at ts xs ys cc))

  hops_at : (ts : Hops) (xs ys : List RouteNextHop) → hops_in xs ≡ ts → HopsDecide xs ys
  hops_at ts [] [] is = (λ e. refl, λ e. refl)
  hops_at ts [] (y ∷ ys) is = (λ e. absurd cc, λ e. absurd cc)
  hops_at ts (x ∷ xs) [] is = (λ e. absurd cc, λ e. absurd cc)
  hops_at no_hops (x ∷ xs) (y ∷ ys) is = absurd cc
  hops_at (hop head inside ts) (x ∷ xs) (y ∷ ys) is =
      let p = view_hop x in
      let q = view_hop y in
      let r = attributes_at inside x.attributes.items y.attributes.items cc in
      decides_as (λ e. λ i. hop (e.0 i).head (e.0 i).attributes (e.1 i)) (λ e. (cc, cc)) (and_decides (hop_layer x y r) (hops_at ts xs ys cc))

pub attribute_equality : IsEqualityOf meaning_of AttributeEq.ghosts.eq
attribute_equality a b = attribute_at (meaning_of a) a b refl

pub next_hop_equality : IsEqualityOf hop_of HopEq.ghosts.eq
next_hop_equality g h = hop_layer g h (attributes_at (attributes_in g.attributes.items) g.attributes.items h.attributes.items refl)
