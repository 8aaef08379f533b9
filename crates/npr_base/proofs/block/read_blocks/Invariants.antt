use Rattle.std.proofs.Common.{◌≤◌, List, ◌++◌, length}
use Rattle.npr_base.specs.Blocks.{AreBlocks}
use Rattle.npr_base.proofs.block.read_blocks.Given as goal

abbrev pub invariant-loop-rest : goal.invariant-loop-rest
invariant-loop-rest g l = record {
  read : (xs : List _) → AreBlocks g.T.Block.width.layout l.rest xs → AreBlocks g.T.Block.width.layout l.bytes (l.blocks.items ++ xs);
  left : length l.rest ≤ length l.bytes;
}

abbrev pub decreases-loop-rest : goal.decreases-loop-rest
decreases-loop-rest g l = length l.rest
