use Rattle.std.proofs.Common.{List, length, map, sym, ap, ◌∙◌, arith}
use Rattle.std.specs.Vec.{with_items}
use Rattle.std.proofs.lemmas.List.{with_items_is}
use denote.Param.Weighed.{at_most}
use Rattle.npr_route.proofs.attribute.RouteAttribute.TheLaws.{the_size}
use Rattle.npr_route.proofs.next_hops.RouteNextHop.TheLaws.{the_size as hop_size}
use Rattle.npr_route.specs.Attribute.{Attributes, multi_path, attributes_of, normalized, normalized_hop}
use Rattle.npr_route.specs.AttributeView.{meaning_of, hop_of, hops_of}
use Rattle.npr_route.specs.declared.attribute.RouteAttribute.{RouteAttribute}
use Rattle.npr_route.specs.declared.next_hops.RouteNextHop.{RouteNextHop, RouteNextHop-F}
use Rattle.npr_route.proofs.Normalizing.{untouched, normalized_more, attributes_of-normalized, hops_of-normalized}
use Rattle.npr_route.proofs.Views.{head_of, view_hop, view_hop_made, view_multi_path}
use Rattle.npr_route.proofs.modes.+normalize.Goals as goal

pub normalize_multi_path-returns-in-MultiPath : goal.normalize_multi_path-returns-in-MultiPath
normalize_multi_path-returns-in-MultiPath k c =
    let old = c.in-MultiPath.hops in
    let done = rw c.as_mut_slice.ensures.value at c.normalize_hops.ensures in
    let kept = with_items_is old c.normalize_hops.new.hops (omega (arith, c.normalize_hops.auto.hops, ap length c.as_mut_slice.ensures.value, old.ok.0)) in
    view_multi_path (with_items old c.normalize_hops.new.hops)
    ∙ ap multi_path (ap (λ (l : List RouteNextHop). hops_of (map hop_of l)) kept ∙ ap hops_of done ∙ hops_of-normalized (map hop_of old.items))
    ∙ sym (ap normalized (view_multi_path old)) ∙ ap (λ (a : RouteAttribute). normalized (meaning_of a)) (sym c.in-MultiPath.is ∙ c.replace-taken.ensures.value)

pub normalize_attributes-normalize_attribute-requires : goal.normalize_attributes-normalize_attribute-requires
normalize_attributes-normalize_attribute-requires k c =
    let below = at_most the_size c.args.attributes.now c.loop-attribute.attribute-index c.attribute-item.result (omega arith) in
    rw (untouched meaning_of normalized c.args.attributes.now c.loop-attribute.attributes c.loop-attribute.attribute-index c.attribute-item.result c.loop-attribute.invariant)
    (omega (arith, c.decreases, below), tt)

pub normalize_attributes-loop-attribute-preserved : goal.normalize_attributes-loop-attribute-preserved
normalize_attributes-loop-attribute-preserved k c =
    normalized_more meaning_of normalized c.args.attributes.now c.loop-attribute.attributes c.loop-attribute.attribute-index c.attribute-item.result
    c.normalize_attribute.new.attribute (omega arith) c.normalize_attribute.ensures c.loop-attribute.invariant

pub normalize_hop-returns : goal.normalize_hop-returns
normalize_hop-returns k c =
    let h : RouteNextHop = c.args.hop.now in
    let x : RouteNextHop-F RouteAttribute RouteNextHop =
    record { flags = h.flags; hops = h.hops; interface_index = h.interface_index; attributes = with_items h.attributes c.normalize_attributes.new.attributes } in
    let done = rw c.as_mut_slice.ensures.value at c.normalize_attributes.ensures in
    let kept = with_items_is h.attributes c.normalize_attributes.new.attributes
    (omega (arith, c.normalize_attributes.auto.attributes, ap length c.as_mut_slice.ensures.value, h.attributes.ok.0)) in
    let inside = ap (λ (l : List RouteAttribute). attributes_of (map meaning_of l)) kept ∙ ap attributes_of done
    ∙ attributes_of-normalized (map meaning_of h.attributes.items) in
    view_hop_made x ∙ ap (λ (ms : Attributes). record { head = head_of h; attributes = ms }) inside ∙ sym (ap normalized_hop (view_hop h))

pub normalize_hops-normalize_hop-requires : goal.normalize_hops-normalize_hop-requires
normalize_hops-normalize_hop-requires k c =
    let below = at_most hop_size c.args.hops.now c.loop-hop.hop-index c.hop-item.result (omega arith) in
    rw (untouched hop_of normalized_hop c.args.hops.now c.loop-hop.hops c.loop-hop.hop-index c.hop-item.result c.loop-hop.invariant)
    (omega (arith, c.decreases, below), tt)

pub normalize_hops-loop-hop-preserved : goal.normalize_hops-loop-hop-preserved
normalize_hops-loop-hop-preserved k c =
    normalized_more hop_of normalized_hop c.args.hops.now c.loop-hop.hops c.loop-hop.hop-index c.hop-item.result c.normalize_hop.new.hop (omega arith)
    c.normalize_hop.ensures c.loop-hop.invariant
