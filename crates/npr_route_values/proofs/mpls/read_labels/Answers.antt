use Rattle.std.proofs.Common.{[], List, subst}
use Rattle.std.proofs.lemmas.List.{append-nil}
use Rattle.npr_base.specs.Blocks.{AreBlocks}
use Rattle.npr_route_values.specs.declared.mpls.MplsLabel.{MplsLabel}
use Rattle.npr_route_values.specs.MplsCodec.{mpls_label}
use Rattle.npr_route_values.proofs.mpls.read_labels.Goals as goal

pub returns-clause-ok : goal.returns-clause-ok
returns-clause-ok c =
    subst (λ (xs : List MplsLabel). AreBlocks mpls_label c.args.bytes.now xs) (append-nil c.loop-rest.labels.items) (c.loop-rest.invariant.read [] c.loop-rest-test.false)
