-- Families and types are those of numbers that stand in bytes: of a header's bytes, and of a value of two, where one governs.
use Rattle.std.specs.Prelude.{◌≡◌, ℕ, ◌==◌, Bool, true, false, List, [], ◌∷◌, length, drop, Option, Some, None, if◌then◌else◌}
use Rattle.std.specs.Int.{w16, from_le_bytes}
use Rattle.std.proofs.Common.{refl, sym, ap, subst, inl, inr, arith}
use Rattle.std.proofs.lemmas.Bool.{eqb-true}
use Rattle.npr_base.specs.AddressFamily.{families}
use Rattle.npr_base.specs.Codec.{leading}
use Rattle.npr_base.specs.FirstTold.{Tells, Governs as FirstGoverns}
use Rattle.npr_base.specs.Framing.{IsBytes, Item, Passes, number_of}
use Rattle.npr_base.specs.Layout.{le16}
use Rattle.npr_base.specs.lemmas.List.{Front-proper, IsBytes-take, IsBytes-drop}
use Rattle.npr_link.specs.Header.{header as link_header}
use Rattle.npr_link.specs.declared.header.LinkHeader.{LinkHeader}
use Rattle.npr_neighbour.specs.Header.{header as neighbour_header}
use Rattle.npr_neighbour.specs.declared.header.NeighbourHeader.{NeighbourHeader}
use Rattle.npr_nexthop.specs.Attribute.{Context as NextHopContext}
use Rattle.npr_nexthop.specs.Governing as OfNextHop
use Rattle.npr_nexthop.specs.Header.{header as next_hop_header}
use Rattle.npr_nexthop.specs.Message.{IsContext as IsNextHopContext}
use Rattle.npr_nexthop.specs.declared.header.NextHopHeader.{NextHopHeader}
use Rattle.npr_route.specs.FlatAttribute.{Context}
use Rattle.npr_route.specs.Governing.{item_type, Governs}
use Rattle.npr_route.specs.Header.{header as route_header}
use Rattle.npr_route.specs.Message.{IsContext}
use Rattle.npr_route.specs.declared.header.RouteHeader.{RouteHeader}
use Rattle.npr_route_values.specs.RouteType.{route_types}
use Rattle.npr_tc_actions.specs.declared.form.TcActionForm.{TcActionForm}
use Rattle.npr_tc_values.specs.declared.form.TcForm.{TcForm}
use Rattle.npr_encapsulation.specs.EncapType.{encap_type, encap_types}
use Rattle.npr_encapsulation.specs.declared.encap_type.RouteLwEnCapType.{RouteLwEnCapType}
use Rattle.npr_encapsulation.specs.declared.encap_type.RouteLwEnCapType.TheVariants.{None as NoEncapsulation}
use Rattle.npr_base.specs.declared.address_family.AddressFamily.{AddressFamily}
use Rattle.npr_base.specs.declared.attribute_set.AttributeSet.{AttributeSet}
use Rattle.npr_base.specs.declared.attribute_set.AttributeSet.TheVariants.{Route, Neighbour, Link, NextHop, Encap, LinkInfo, Value, Mpls, Ip, Ip6, Xfrm, Geneve, Seg6}
use Rattle.npr_base.specs.declared.attribute_set.AttributeSet.TheVariants.{Seg6Local, Rpl, Ioam6, TcAction}
use Rattle.npr_link.specs.Governing.{Forms}
use Rattle.netlink_packet_route.specs.MessageKind.{of_family, of_route, of_next_hop, of_tc}
use Rattle.netlink_packet_route.specs.Nests.{IsOf, FromBytes, HopUnder, Inner, action_nest, context_for, driver_nest, hop_nest, listed, nest_in}
use Rattle.netlink_packet_route.specs.Nests.{within}
use Rattle.netlink_packet_route.specs.Readings.{no_context}
use Rattle.netlink_packet_route.specs.declared.context.Context.{Context as Outside}
use Rattle.netlink_packet_route.specs.declared.nests.Nest.{Nest}

-- ---- the type that governs a list

told : (a b : Bool) (value : List ℕ) (type : RouteLwEnCapType) → IsBytes value → (b ≡ true → length value ≡ 2)
    → (if a then if b then Some (encap_type.decode value) else None else None) ≡ Some type → IsOf 65536 encap_types type
told true true value type is two e = (from_le_bytes w16 value, le16.Holds-decode value is (two refl), cc)
told true false value type is two e = absurd (cc)
told false b value type is two e = absurd (cc)

rest-bytes : (bytes : List ℕ) (items : List Item) (rest : List ℕ) → IsBytes bytes → Passes bytes items rest → IsBytes rest
rest-bytes bytes [] rest is passes = subst IsBytes passes is
rest-bytes bytes (x ∷ items) rest is (more, front, passes) = rest-bytes more items rest (Front-proper bytes x more is front).1 passes

module _ (tells : Item → Option RouteLwEnCapType)
    (each : (x : Item) (type : RouteLwEnCapType) → IsBytes x.value → tells x ≡ Some type → IsOf 65536 encap_types type) where
  tells-number : (default : RouteLwEnCapType) (rest : List ℕ) (type : RouteLwEnCapType) → IsBytes rest → IsOf 65536 encap_types default
      → Tells tells default rest type → IsOf 65536 encap_types type
  tells-number default rest type is from (inl (x, more, front, e)) = each x type (Front-proper rest x more is front).0.value e
  tells-number default rest type is from (inr (none, e)) = subst (IsOf 65536 encap_types) (sym e) from

  first-number : (default : RouteLwEnCapType) (bytes : List ℕ) (type : RouteLwEnCapType) → IsBytes bytes → IsOf 65536 encap_types default
      → FirstGoverns tells default bytes type → IsOf 65536 encap_types type
  first-number default bytes type is from (before, rest, passes, silent, told_it) =
      tells-number default rest type (rest-bytes bytes before rest is passes) from told_it

-- of a route, and of a next hop in it
route-item : (x : Item) (type : RouteLwEnCapType) → IsBytes x.value → item_type x ≡ Some type → IsOf 65536 encap_types type
route-item x type is e = told (number_of x.kind == 21) (length x.value == 2) x.value type is (λ two. eqb-true (length x.value) 2 two) e

pub governed-number : (outer : RouteLwEnCapType) (bytes : List ℕ) (type : RouteLwEnCapType) → IsBytes bytes → IsOf 65536 encap_types outer
    → Governs outer bytes type → IsOf 65536 encap_types type
governed-number = first-number item_type route-item

-- of a next hop message
next-hop-item : (x : Item) (type : RouteLwEnCapType) → IsBytes x.value → OfNextHop.item_type x ≡ Some type → IsOf 65536 encap_types type
next-hop-item x type is e = told (number_of x.kind == 7) (length x.value == 2) x.value type is (λ two. eqb-true (length x.value) 2 two) e

no-type : IsOf 65536 encap_types NoEncapsulation
no-type = (0, omega arith, refl)

-- ---- what stands in headers

pub neighbour-number : (bytes : List ℕ) (h : NeighbourHeader) → IsBytes bytes → (leading neighbour_header).Reads bytes h → IsOf 256 families h.family
neighbour-number bytes h is reads = (_, IsBytes-take 12 bytes is 0, ap NeighbourHeader.family reads.1)

pub link-number : (bytes : List ℕ) (h : LinkHeader) → IsBytes bytes → (leading link_header).Reads bytes h → IsOf 256 families h.interface_family
link-number bytes h is reads = (_, IsBytes-take 16 bytes is 0, ap LinkHeader.interface_family reads.1)

-- ---- of what names a list

no-family : IsOf 256 families no_context.family
no-family = (0, omega arith, refl)

no-route-type : IsOf 256 route_types no_context.route_type
no-route-type = (0, omega arith, refl)

pub plain-bytes : (set : AttributeSet) → listed set ≡ set → no_context ≡ context_for set no_context
    → FromBytes (record { set = set; context = no_context })
plain-bytes set own same = record { family = no-family; route_type = no-route-type; encap_type = no-type; own = own; no_more = same }

pub neighbour-bytes : (family : AddressFamily) → IsOf 256 families family → FromBytes (of_family Neighbour family)
neighbour-bytes family is = record { family = is; route_type = no-route-type; encap_type = no-type; own = refl; no_more = refl }

pub link-bytes : (family : AddressFamily) → IsOf 256 families family → FromBytes (of_family Link family)
link-bytes family is = record { family = is; route_type = no-route-type; encap_type = no-type; own = refl; no_more = refl }

pub tc-bytes : (form : TcForm) → FromBytes (of_tc form)
tc-bytes form = record { family = no-family; route_type = no-route-type; encap_type = no-type; own = refl; no_more = refl }

pub route-bytes : (bytes : List ℕ) (h : RouteHeader) (rest : List ℕ) (c : Context) → IsBytes bytes → (leading route_header).Reads bytes h
    → rest ≡ drop 12 bytes → IsContext h rest c → FromBytes (of_route c)
route-bytes bytes h rest c is reads behind (type, governs, e) =
    let front = IsBytes-take 12 bytes is in
    let after : IsBytes rest = subst IsBytes (sym behind) (IsBytes-drop 12 bytes is) in
    let encap : IsOf 65536 encap_types type = governed-number NoEncapsulation rest type after no-type governs in
    let there : FromBytes (of_route (h.address_family, h.kind, type)) = record {
      family = (_, front 0, ap RouteHeader.address_family reads.1);
      route_type = (_, front 7, ap RouteHeader.kind reads.1);
      encap_type = encap;
      own = refl;
      no_more = refl;
    } in
    subst (λ (d : Context). FromBytes (of_route d)) (sym e) there

pub next-hop-bytes : (bytes : List ℕ) (h : NextHopHeader) (rest : List ℕ) (c : NextHopContext) → IsBytes bytes
    → (leading next_hop_header).Reads bytes h → rest ≡ drop 8 bytes → IsNextHopContext h rest c → FromBytes (of_next_hop c)
next-hop-bytes bytes h rest c is reads behind (type, governs, e) =
    let after : IsBytes rest = subst IsBytes (sym behind) (IsBytes-drop 8 bytes is) in
    let encap : IsOf 65536 encap_types type = first-number OfNextHop.item_type next-hop-item NoEncapsulation rest type after no-type governs in
    let there : FromBytes (of_next_hop (h.family, type)) = record {
      family = (_, IsBytes-take 8 bytes is 0, ap NextHopHeader.family reads.1);
      route_type = no-route-type;
      encap_type = encap;
      own = refl;
      no_more = refl;
    } in
    subst (λ (d : NextHopContext). FromBytes (of_next_hop d)) (sym e) there

-- of a list in a value, of what it is outside
module _ (c : Outside) (f : IsOf 256 families c.family) (t : IsOf 256 route_types c.route_type) (e : IsOf 65536 encap_types c.encap_type) where
  pub listed-bytes : (set : AttributeSet) → FromBytes (nest_in (listed set) c)
  listed-bytes Route = record { family = f; route_type = t; encap_type = e; own = refl; no_more = refl }
  listed-bytes NextHop = record { family = f; route_type = no-route-type; encap_type = e; own = refl; no_more = refl }
  listed-bytes Neighbour = record { family = f; route_type = no-route-type; encap_type = no-type; own = refl; no_more = refl }
  listed-bytes Link = record { family = f; route_type = no-route-type; encap_type = no-type; own = refl; no_more = refl }
  listed-bytes Encap = record { family = no-family; route_type = no-route-type; encap_type = e; own = refl; no_more = refl }
  listed-bytes Value = record { family = no-family; route_type = no-route-type; encap_type = e; own = refl; no_more = refl }
  listed-bytes Mpls = record { family = no-family; route_type = no-route-type; encap_type = e; own = refl; no_more = refl }
  listed-bytes Ip = record { family = no-family; route_type = no-route-type; encap_type = e; own = refl; no_more = refl }
  listed-bytes Ip6 = record { family = no-family; route_type = no-route-type; encap_type = e; own = refl; no_more = refl }
  listed-bytes Xfrm = record { family = no-family; route_type = no-route-type; encap_type = e; own = refl; no_more = refl }
  listed-bytes Geneve = record { family = no-family; route_type = no-route-type; encap_type = e; own = refl; no_more = refl }
  listed-bytes Seg6 = record { family = no-family; route_type = no-route-type; encap_type = e; own = refl; no_more = refl }
  listed-bytes Seg6Local = record { family = no-family; route_type = no-route-type; encap_type = e; own = refl; no_more = refl }
  listed-bytes Rpl = record { family = no-family; route_type = no-route-type; encap_type = e; own = refl; no_more = refl }
  listed-bytes Ioam6 = record { family = no-family; route_type = no-route-type; encap_type = e; own = refl; no_more = refl }
  listed-bytes set = record { family = no-family; route_type = no-route-type; encap_type = no-type; own = refl; no_more = refl }

driver-bytes : (forms : Forms) → FromBytes (driver_nest forms)
driver-bytes forms = record { family = no-family; route_type = no-route-type; encap_type = no-type; own = refl; no_more = refl }

action-bytes : (form : TcActionForm) → FromBytes (action_nest form)
action-bytes form = record { family = no-family; route_type = no-route-type; encap_type = no-type; own = refl; no_more = refl }

module _ (c : Outside) (f : IsOf 256 families c.family) (t : IsOf 256 route_types c.route_type) (e : IsOf 65536 encap_types c.encap_type) where
  under-bytes : (set : AttributeSet) (value : List ℕ) (inner : Nest) → Inner c set value inner → FromBytes inner
  under-bytes LinkInfo value inner (forms, old, new, found, is) = subst FromBytes (sym is) (driver-bytes forms)
  under-bytes TcAction value inner (form, found, is) = subst FromBytes (sym is) (action-bytes form)
  under-bytes set value inner is = subst FromBytes (sym is) (listed-bytes c f t e set)

within-bytes : (outer : AttributeSet) (c : Outside) → IsOf 256 families c.family → IsOf 256 route_types c.route_type → IsOf 65536 encap_types c.encap_type
    → (set : AttributeSet) (value : List ℕ) (inner : Nest) → Inner (within outer c) set value inner → FromBytes inner
within-bytes TcAction c f t e set value inner is = under-bytes (within TcAction c) f t e set value inner is
within-bytes outer c f t e set value inner is = under-bytes c f t e set value inner is

pub inner-bytes : (set : AttributeSet) (outer : Nest) (value : List ℕ) (inner : Nest) → Inner (within outer.set outer.context) set value inner
    → FromBytes outer → FromBytes inner
inner-bytes set outer value inner is from =
    within-bytes outer.set outer.context from.family from.route_type from.encap_type set value inner is

-- and of a next hop
pub hop-bytes : (set : AttributeSet) (c : Outside) (bytes : List ℕ) (inner : Nest) → IsBytes bytes → HopUnder set c bytes inner
    → FromBytes (record { set = set; context = c }) → FromBytes inner
hop-bytes Route c bytes inner is (type, governs, e) from =
    let there : FromBytes (hop_nest c type) = record {
      family = from.family;
      route_type = from.route_type;
      encap_type = governed-number c.encap_type bytes type is from.encap_type governs;
      own = refl;
      no_more = ap (λ (o : Outside). record o { encap_type = type }) from.no_more;
    } in
    subst FromBytes (sym e) there
hop-bytes set c bytes inner is e from = subst FromBytes (sym e) from
