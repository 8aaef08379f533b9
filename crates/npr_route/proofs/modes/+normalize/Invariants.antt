use Rattle.npr_route.specs.Attribute.{normalized, normalized_hop}
use Rattle.npr_route.specs.AttributeView.{meaning_of, hop_of}
use Rattle.npr_route.proofs.Normalizing.{NormalizedSoFar}
use Rattle.npr_route.proofs.modes.+normalize.Given as goal

abbrev pub invariant-normalize_attributes-loop-attribute : goal.invariant-normalize_attributes-loop-attribute
invariant-normalize_attributes-loop-attribute l = NormalizedSoFar meaning_of normalized l.fn.attributes l.attributes l.attribute-index

abbrev pub invariant-normalize_hops-loop-hop : goal.invariant-normalize_hops-loop-hop
invariant-normalize_hops-loop-hop l = NormalizedSoFar hop_of normalized_hop l.fn.hops l.hops l.hop-index
