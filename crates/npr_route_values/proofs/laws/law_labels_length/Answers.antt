use Rattle.npr_route_values.specs.MplsCodec.{length-mpls_labels}
use Rattle.npr_route_values.proofs.laws.law_labels_length.Goals as goal

pub returns : goal.returns
returns c = length-mpls_labels
