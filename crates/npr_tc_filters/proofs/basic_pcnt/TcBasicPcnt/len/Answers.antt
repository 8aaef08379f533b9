use Rattle.std.proofs.Common.{arith}
use Rattle.npr_base.proofs.BlockLengths.{blocks-length}
use Rattle.npr_base.specs.Words.{words64}
use Rattle.npr_tc_filters.proofs.basic_pcnt.TcBasicPcnt.len.Goals as goal

pub blocks_len-requires : goal.blocks_len-requires
blocks_len-requires c = omega (arith, c.as_slice.type_inv, blocks-length words64 c.as_slice.result.now)
