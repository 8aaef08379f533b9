use Rattle.std.proofs.Common.{◌≡◌, length, take}
use Rattle.npr_base.specs.Framing.{Writes}
use Rattle.npr_base.specs.Blocks.{block_bytes}
use Rattle.npr_route_values.specs.MplsCodec.{mpls_label}
use Rattle.npr_route_values.proofs.mpls.write_labels.Given as goal

abbrev pub invariant-loop-entry : goal.invariant-loop-entry
invariant-loop-entry l = record {
  len : l.at ≡ length (block_bytes mpls_label (take l.entry-index l.labels));
  after : Writes l.fn.out l.out (block_bytes mpls_label (take l.entry-index l.labels));
}
