use Rattle.std.proofs.Common.{arith}
use Rattle.npr_route_values.specs.MplsCodec.{length-mpls_labels}
use Rattle.npr_route_values.proofs.mpls.labels_len.Goals as goal

pub returns : goal.returns
returns c = omega (arith, length-mpls_labels c.args.labels.now)
