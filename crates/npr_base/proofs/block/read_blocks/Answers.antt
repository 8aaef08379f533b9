use Rattle.std.proofs.Common.{◌<◌, [], length, subst, arith}
use Rattle.std.proofs.lemmas.List.{append-nil}
use Rattle.npr_base.specs.Blocks.{AreBlocks}
use Rattle.npr_base.proofs.block.read_blocks.Goals as goal

pub returns-clause-ok : goal.returns-clause-ok
returns-clause-ok g c =
    let L = g.T.Block.width.layout in
    let short : length c.loop-rest.rest.now < L.size = omega (arith, c.loop-rest-test.false, c.size.ensures) in
    subst (AreBlocks L c.args.bytes.now) (append-nil c.loop-rest.blocks.items) (c.loop-rest.invariant.read [] short)
