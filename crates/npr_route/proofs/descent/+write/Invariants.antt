use Rattle.std.proofs.Common.{◌≡◌, length, take, drop, None}
use Rattle.npr_base.specs.Framing.{Writes}
use Rattle.npr_base.specs.Lists.{first_unfit, encodings, joined}
use Rattle.npr_route.specs.AttributeView.{attribute_item, attribute_unfit, next_hop_bytes, next_hop_unfit}
use Rattle.npr_route.proofs.descent.+write.Given as goal

abbrev pub invariant-write_attributes-loop-attribute : goal.invariant-write_attributes-loop-attribute
invariant-write_attributes-loop-attribute l = record {
  fits : first_unfit attribute_unfit (drop l.attribute-index l.list) ≡ None;
  len : l.at ≡ length (encodings attribute_item (take l.attribute-index l.list));
  after : Writes l.fn.out l.out (encodings attribute_item (take l.attribute-index l.list));
}

abbrev pub invariant-write_hops-loop-hop : goal.invariant-write_hops-loop-hop
invariant-write_hops-loop-hop l = record {
  fits : first_unfit next_hop_unfit (drop l.hop-index l.hops) ≡ None;
  len : l.at ≡ length (joined next_hop_bytes (take l.hop-index l.hops));
  after : Writes l.fn.out l.out (joined next_hop_bytes (take l.hop-index l.hops));
}
