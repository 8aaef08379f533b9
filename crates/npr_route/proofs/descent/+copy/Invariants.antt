use Rattle.std.proofs.Common.{◌≡◌, map, take}
use Rattle.npr_route.specs.AttributeView.{meaning_of, hop_of}
use Rattle.npr_route.proofs.descent.+copy.Given as goal

abbrev pub invariant-clone_attributes-loop-attribute : goal.invariant-clone_attributes-loop-attribute
invariant-clone_attributes-loop-attribute l = map meaning_of l.copies.items ≡ map meaning_of (take l.attribute-index l.list)

abbrev pub invariant-clone_hops-loop-hop : goal.invariant-clone_hops-loop-hop
invariant-clone_hops-loop-hop l = map hop_of l.copies.items ≡ map hop_of (take l.hop-index l.hops)
