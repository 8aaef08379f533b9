use Rattle.std.proofs.Common.{◌≤◌, List, ◌++◌, length}
use Rattle.npr_base.specs.Blocks.{AreBlocks}
use Rattle.npr_route_values.specs.declared.mpls.MplsLabel.{MplsLabel}
use Rattle.npr_route_values.specs.MplsCodec.{mpls_label}
use Rattle.npr_route_values.proofs.mpls.read_labels.Given as goal

abbrev pub invariant-loop-rest : goal.invariant-loop-rest
invariant-loop-rest l = record {
  read : (xs : List MplsLabel) → AreBlocks mpls_label l.rest xs → AreBlocks mpls_label l.bytes (l.labels.items ++ xs);
  left : length l.rest ≤ length l.bytes;
}

abbrev pub decreases-loop-rest : goal.decreases-loop-rest
decreases-loop-rest l = length l.rest
