-- A next hop that is written: what can be, and what is.
use Rattle.std.proofs.Common.{◌≡◌, ◌+◌, ◌≤◌, length, map, None, sym, ap, ◌∙◌}
use Rattle.std.specs.declared.vec.Vec.{Vec}
use Rattle.std.specs.declared.alloc.Global.{Global}
use Rattle.npr_base.specs.Lists.{first_unfit, encodings, joined}
use Rattle.npr_base.specs.lemmas.Fit.{none_both}
use Rattle.npr_route.specs.Attribute.{Meaning, shape_of, hop_bytes, hop_text, hop_overlong}
use Rattle.npr_route.specs.lemmas.Attribute.{hop-short, fits-inside}
use Rattle.npr_route.specs.AttributeView.{meaning_of, hop_of, hops_of, attribute_item, attribute_unfit, next_hop_bytes, next_hop_unfit}
use Rattle.npr_route.specs.declared.attribute.RouteAttribute.TheVariants.{MultiPath}
use Rattle.npr_route.specs.declared.next_hops.RouteNextHop.{RouteNextHop}
use Rattle.npr_route.proofs.Views.{head_of, view_hop, view_multi_path, attributes_text, hops_fit, hops_text, hop_unfit-is}

-- the bytes of a next hop, by what its attributes are
pub next_hop_bytes-is : (h : RouteNextHop) → next_hop_bytes h ≡ hop_text (head_of h) (encodings attribute_item h.attributes.items)
next_hop_bytes-is h = ap hop_bytes (view_hop h) ∙ ap (hop_text (head_of h)) (attributes_text h.attributes.items)

-- a next hop that can be written is short, and so can its attributes be
pub hop_fits : (h : RouteNextHop) → next_hop_unfit h ≡ None → (first_unfit attribute_unfit h.attributes.items ≡ None) × (8 + length (encodings attribute_item h.attributes.items) ≤ 65535)
hop_fits h fits =
    let len = 8 + length (encodings attribute_item h.attributes.items) in
    let k = none_both (first_unfit attribute_unfit h.attributes.items) (hop_overlong len) (sym (hop_unfit-is h) ∙ fits) in
    (k.0, hop-short len k.1)

-- next hops as the value of an attribute that can be written
pub multi_path_fits : (v : Vec RouteNextHop Global) → (shape_of (meaning_of (MultiPath v))).unfit ≡ None → first_unfit next_hop_unfit v.items ≡ None
multi_path_fits v fits = sym (hops_fit v.items) ∙ fits-inside (hops_of (map hop_of v.items)) (sym (ap (λ (m : Meaning). (shape_of m).unfit) (view_multi_path v)) ∙ fits)

pub multi_path_value : (v : Vec RouteNextHop Global) → (shape_of (meaning_of (MultiPath v))).item.value ≡ joined next_hop_bytes v.items
multi_path_value v = ap (λ (m : Meaning). (shape_of m).item.value) (view_multi_path v) ∙ hops_text v.items
