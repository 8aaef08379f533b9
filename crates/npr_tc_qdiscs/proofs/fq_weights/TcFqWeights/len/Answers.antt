use Rattle.std.proofs.Common.{arith}
use Rattle.npr_base.proofs.BlockLengths.{blocks-length}
use Rattle.npr_base.specs.Words.{signed_words32}
use Rattle.npr_tc_qdiscs.proofs.fq_weights.TcFqWeights.len.Goals as goal

pub blocks_len-requires : goal.blocks_len-requires
blocks_len-requires c = omega (arith, c.as_slice.type_inv, blocks-length signed_words32 c.as_slice.result.now)
