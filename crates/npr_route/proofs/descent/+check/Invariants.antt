use Rattle.std.proofs.Common.{◌≡◌, ◌≤◌, ◌*◌, ◌^◌, ◌-◌, length, take, drop}
use Rattle.npr_base.specs.Lists.{first_unfit, encodings, joined}
use Rattle.npr_route.specs.AttributeView.{attribute_item, attribute_unfit, next_hop_bytes, next_hop_unfit}
use Rattle.npr_route.proofs.descent.+check.Given as goal

abbrev pub invariant-check_attributes-loop-attribute : goal.invariant-check_attributes-loop-attribute
invariant-check_attributes-loop-attribute l = record {
  fits : first_unfit attribute_unfit l.list ≡ first_unfit attribute_unfit (drop l.attribute-index l.list);
  sum : l.total ≡ length (encodings attribute_item (take l.attribute-index l.list));
  small : l.total ≤ l.attribute-index * (2 ^ 64 - 1);
}

abbrev pub invariant-check_hops-loop-hop : goal.invariant-check_hops-loop-hop
invariant-check_hops-loop-hop l = record {
  fits : first_unfit next_hop_unfit l.hops ≡ first_unfit next_hop_unfit (drop l.hop-index l.hops);
  sum : l.total ≡ length (joined next_hop_bytes (take l.hop-index l.hops));
  small : l.total ≤ l.hop-index * (2 ^ 64 - 1);
}
