-- What values of the program mean: a next hop by its fields, and lists of them member by member.
use Rattle.std.specs.Prelude.{Option, Some, None}
use Rattle.std.proofs.Common.{◌≡◌, ℕ, ◌+◌, ◌^◌, List, [], ◌∷◌, ◌++◌, length, map, Ok, Err, refl, sym, ap, ◌∙◌, arith, inl, inr}
use Rattle.std.proofs.lemmas.Bool.{cases_lt, lt-ltb, le-ltb}
use Rattle.npr_base.specs.declared.refusal.EmitError.{EmitError}
use Rattle.npr_base.specs.declared.refusal.EmitError.TheVariants.{Total}
use Rattle.npr_base.specs.Framing.{encoding}
use Rattle.npr_base.specs.Lists.{checked, option_or, overlong, first_unfit, list_unfit, encodings, joined}
use Rattle.npr_route.specs.Attribute.{HopHead, Meaning, flat, multi_path, Hop, shape_of, meaning_unfit, attributes_unfit, attributes_bytes, hops_unfit, hops_bytes, hop_unfit, hop_bytes, hop_overlong, attributes_of}
use Rattle.npr_route.specs.AttributeView.{hops_of, attribute_step, hop_step, meaning_of, hop_of, attribute_item, attribute_unfit, next_hop_bytes, next_hop_unfit}
use Rattle.npr_route_values.specs.RouteFlags.{next_hop_flag_bits}
use Rattle.npr_route.specs.declared.attribute.RouteAttribute.{RouteAttribute}
use Rattle.npr_route.specs.declared.attribute.RouteAttribute.TheFolds.{fold_out-RouteNextHop, fold-roll-RouteNextHop, fold-roll-RouteAttribute}
use Rattle.npr_route.specs.declared.attribute.RouteAttribute.TheOpen as Open
use Rattle.npr_route.specs.declared.attribute.RouteAttribute.TheVariants.{Metrics, rolls-Metrics, MultiPath, rolls-MultiPath, Encap, rolls-Encap, NewDestination, rolls-NewDestination, NewDestinationAddress, rolls-NewDestinationAddress, Expires, rolls-Expires, MulticastExpires, rolls-MulticastExpires}
use Rattle.npr_route_values.specs.RouteAddress.{address_of}
use Rattle.npr_route_values.specs.declared.address.RouteAddress.{RouteAddress}
use Rattle.npr_route_values.specs.declared.mpls.MplsLabel.{MplsLabel}
use Rattle.npr_encapsulation.specs.Encapsulation.{meaning_of as member_of}
use Rattle.npr_encapsulation.specs.declared.encap.RouteLwTunnelEncap.{RouteLwTunnelEncap}
use Rattle.npr_route.specs.Metric.{family as metric_family}
use Rattle.npr_route.specs.declared.metrics.RouteMetric.{RouteMetric}
use Rattle.npr_route.specs.FlatAttribute as Flat
use Rattle.std.specs.declared.vec.Vec.{Vec}
use Rattle.std.specs.declared.alloc.Global.{Global}
use Rattle.npr_route.specs.declared.next_hops.RouteNextHop.{RouteNextHop, RouteNextHop-F, roll-RouteNextHop}

abbrev pub head_of : RouteNextHop → HopHead
head_of h = record { flags = next_hop_flag_bits.number h.flags; hops = h.hops; interface_index = h.interface_index }

-- a next hop is its fields, and what its attributes mean
pub view_hop : (h : RouteNextHop) → hop_of h ≡ record { head = head_of h; attributes = attributes_of (map meaning_of h.attributes.items) }
view_hop h = fold_out-RouteNextHop Meaning Hop attribute_step hop_step h

-- the same of one that is made of its fields
pub view_hop_made : (x : RouteNextHop-F RouteAttribute RouteNextHop) → hop_of (roll-RouteNextHop x)
    ≡ record { head = record { flags = next_hop_flag_bits.number x.flags; hops = x.hops; interface_index = x.interface_index }; attributes = attributes_of (map meaning_of x.attributes.items) }
view_hop_made = fold-roll-RouteNextHop Meaning Hop attribute_step hop_step

-- and next hops are what each of them means
pub view_multi_path : (v : Vec RouteNextHop Global) → meaning_of (MultiPath v) ≡ multi_path (hops_of (map hop_of v.items))
view_multi_path v = ap meaning_of (sym (rolls-MultiPath v)) ∙ fold-roll-RouteAttribute Meaning Hop attribute_step hop_step (Open.MultiPath v)

pub view_metrics : (v : Vec RouteMetric Global) → meaning_of (Metrics v) ≡ flat (Flat.metrics (map metric_family.meaning v.items))
view_metrics v = ap meaning_of (sym (rolls-Metrics v)) ∙ fold-roll-RouteAttribute Meaning Hop attribute_step hop_step (Open.Metrics v)

pub view_encapsulation : (v : Vec RouteLwTunnelEncap Global) → meaning_of (Encap v) ≡ flat (Flat.encap (map member_of v.items))
view_encapsulation v = ap meaning_of (sym (rolls-Encap v)) ∙ fold-roll-RouteAttribute Meaning Hop attribute_step hop_step (Open.Encap v)

pub view_new_destination : (v : Vec MplsLabel Global) → meaning_of (NewDestination v) ≡ flat (Flat.new_destination v.items)
view_new_destination v = ap meaning_of (sym (rolls-NewDestination v)) ∙ fold-roll-RouteAttribute Meaning Hop attribute_step hop_step (Open.NewDestination v)

pub view_new_destination_address : (a : RouteAddress) → meaning_of (NewDestinationAddress a) ≡ flat (Flat.new_destination_address (address_of a))
view_new_destination_address a = ap meaning_of (sym (rolls-NewDestinationAddress a)) ∙ fold-roll-RouteAttribute Meaning Hop attribute_step hop_step (Open.NewDestinationAddress a)

pub view_expires : (n : ℕ) → meaning_of (Expires n) ≡ flat (Flat.expires n)
view_expires n = ap meaning_of (sym (rolls-Expires n)) ∙ fold-roll-RouteAttribute Meaning Hop attribute_step hop_step (Open.Expires n)

pub view_multicast_expires : (n : ℕ) → meaning_of (MulticastExpires n) ≡ flat (Flat.multicast_expires n)
view_multicast_expires n = ap meaning_of (sym (rolls-MulticastExpires n)) ∙ fold-roll-RouteAttribute Meaning Hop attribute_step hop_step (Open.MulticastExpires n)

-- ---- lists of them

pub attributes_fit : (xs : List RouteAttribute) → attributes_unfit (attributes_of (map meaning_of xs)) ≡ first_unfit attribute_unfit xs
attributes_fit [] = refl
attributes_fit (x ∷ xs) = ap (option_or (meaning_unfit (meaning_of x))) (attributes_fit xs)

pub attributes_text : (xs : List RouteAttribute) → attributes_bytes (attributes_of (map meaning_of xs)) ≡ encodings attribute_item xs
attributes_text [] = refl
attributes_text (x ∷ xs) = ap (λ (w : List ℕ). encoding (attribute_item x) ++ w) (attributes_text xs)

pub hops_fit : (xs : List RouteNextHop) → hops_unfit (hops_of (map hop_of xs)) ≡ first_unfit next_hop_unfit xs
hops_fit [] = refl
hops_fit (x ∷ xs) = ap (option_or (next_hop_unfit x)) (hops_fit xs)

pub hops_text : (xs : List RouteNextHop) → hops_bytes (hops_of (map hop_of xs)) ≡ joined next_hop_bytes xs
hops_text [] = refl
hops_text (x ∷ xs) = ap (λ (w : List ℕ). next_hop_bytes x ++ w) (hops_text xs)

-- ---- what a check answers

-- the attributes of a next hop have a length, or the cause is that of the next hop
pub inside_unfit : (u : Option EmitError) (n : ℕ) (e : EmitError) → Err e ≡ checked (option_or u (overlong n)) n → option_or u (hop_overlong (8 + n)) ≡ Some e
inside_unfit (Some f) n e is = cc
inside_unfit None n e is = elim (cases_lt n (2 ^ 64)) [
  | inl lt ↦ absurd (let h : overlong n ≡ None = rw (lt-ltb n (2 ^ 64) lt) refl in let k : Err e ≡ Ok n = is ∙ ap (λ o. checked o n) h in cc)
  | inr le ↦
      let h : overlong n ≡ Some Total = rw (le-ltb n (2 ^ 64) le) refl in
      let k : Err e ≡ checked (Some Total) n = is ∙ ap (λ o. checked o n) h in
      let l : hop_overlong (8 + n) ≡ Some Total = rw (le-ltb (8 + n) 65536 (omega arith), le-ltb (8 + n) (2 ^ 64) (omega arith)) refl in
      l ∙ (let m : Total ≡ e = cc in ap Some m)
]

pub inside_fits : (u : Option EmitError) (n m : ℕ) → Ok m ≡ checked (option_or u (overlong n)) n → (u ≡ None) × (m ≡ n)
inside_fits (Some f) n m is = absurd cc
inside_fits None n m is = elim (cases_lt n (2 ^ 64)) [
  | inl lt ↦ (refl, let h : overlong n ≡ None = rw (lt-ltb n (2 ^ 64) lt) refl in let k : Ok m ≡ Ok n = is ∙ ap (λ o. checked o n) h in cc)
  | inr le ↦ absurd (let h : overlong n ≡ Some Total = rw (le-ltb n (2 ^ 64) le) refl in let k : Ok m ≡ checked (Some Total) n = is ∙ ap (λ o. checked o n) h in cc)
]

-- why a next hop can't be written, by what its attributes are
pub hop_unfit-is : (h : RouteNextHop) → hop_unfit (hop_of h) ≡ option_or (first_unfit attribute_unfit h.attributes.items) (hop_overlong (8 + length (encodings attribute_item h.attributes.items)))
hop_unfit-is h =
    let xs = h.attributes.items in
    ap hop_unfit (view_hop h)
    ∙ ap (λ (w : List ℕ). option_or (attributes_unfit (attributes_of (map meaning_of xs))) (hop_overlong (8 + length w))) (attributes_text xs)
    ∙ ap (λ (o : Option EmitError). option_or o (hop_overlong (8 + length (encodings attribute_item xs)))) (attributes_fit xs)

pub hop_bytes-length : (h : RouteNextHop) → length (next_hop_bytes h) ≡ 8 + length (encodings attribute_item h.attributes.items)
hop_bytes-length h = omega (arith, ap (λ (k : Hop). length (hop_bytes k)) (view_hop h), ap length (attributes_text h.attributes.items))

pub hop_unchecked : (h : RouteNextHop) (e : EmitError) (n : ℕ) → Err e ≡ checked (list_unfit attribute_unfit attribute_item h.attributes.items) (length (encodings attribute_item h.attributes.items)) → Err e ≡ checked (hop_unfit (hop_of h)) n
hop_unchecked h e n is = let some = hop_unfit-is h ∙ inside_unfit (first_unfit attribute_unfit h.attributes.items) (length (encodings attribute_item h.attributes.items)) e is in sym (ap (λ (o : Option EmitError). checked o n) some)

pub hop_checked : (h : RouteNextHop) (m : ℕ) → Ok m ≡ checked (list_unfit attribute_unfit attribute_item h.attributes.items) (length (encodings attribute_item h.attributes.items))
    → checked (hop_overlong (8 + m)) (8 + m) ≡ checked (hop_unfit (hop_of h)) (length (next_hop_bytes h))
hop_checked h m is =
    let n = length (encodings attribute_item h.attributes.items) in
    let k = inside_fits (first_unfit attribute_unfit h.attributes.items) n m is in
    let fit : hop_unfit (hop_of h) ≡ hop_overlong (8 + n) = hop_unfit-is h ∙ ap (λ (o : Option EmitError). option_or o (hop_overlong (8 + n))) k.0 in
    ap (λ (l : ℕ). checked (hop_overlong (8 + l)) (8 + l)) k.1 ∙ sym (ap (λ (o : Option EmitError). checked o (8 + n)) fit) ∙ sym (ap (checked (hop_unfit (hop_of h))) (hop_bytes-length h))

-- a list of next hops as the value of an attribute
pub multi_path-checked : (v : Vec RouteNextHop Global)
    → checked (option_or (first_unfit next_hop_unfit v.items) (overlong (length (joined next_hop_bytes v.items)))) (length (joined next_hop_bytes v.items))
    ≡ checked (shape_of (meaning_of (MultiPath v))).unfit (length (shape_of (meaning_of (MultiPath v))).item.value)
multi_path-checked v =
    let m = view_multi_path v in
    let both : (u : Option EmitError) (w : List ℕ) → hops_unfit (hops_of (map hop_of v.items)) ≡ u → hops_bytes (hops_of (map hop_of v.items)) ≡ w
    → checked (option_or u (overlong (length w))) (length w) ≡ checked (shape_of (multi_path (hops_of (map hop_of v.items)))).unfit (length (hops_bytes (hops_of (map hop_of v.items))))
    = λ u w p q. rw (← p, ← q) refl in
    both (first_unfit next_hop_unfit v.items) (joined next_hop_bytes v.items) (hops_fit v.items) (hops_text v.items)
    ∙ sym (ap (λ (n : Meaning). checked (shape_of n).unfit (length (shape_of n).item.value)) m)
