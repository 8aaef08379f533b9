use Rattle.std.proofs.Common.{◌≡◌, length, take}
use Rattle.npr_base.specs.Framing.{Writes}
use Rattle.npr_base.specs.Blocks.{block_bytes}
use Rattle.npr_base.proofs.block.write_blocks.Given as goal

abbrev pub invariant-loop-block : goal.invariant-loop-block
invariant-loop-block g l = record {
  len : l.at ≡ length (block_bytes g.T.Block.width.layout (take l.block-index l.blocks));
  after : Writes l.fn.out l.out (block_bytes g.T.Block.width.layout (take l.block-index l.blocks));
}
