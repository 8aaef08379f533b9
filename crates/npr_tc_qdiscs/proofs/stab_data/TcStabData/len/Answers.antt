use Rattle.std.proofs.Common.{arith}
use Rattle.npr_base.proofs.BlockLengths.{blocks-length}
use Rattle.npr_base.specs.Words.{words16}
use Rattle.npr_tc_qdiscs.proofs.stab_data.TcStabData.len.Goals as goal

pub blocks_len-requires : goal.blocks_len-requires
blocks_len-requires c = omega (arith, c.as_slice.type_inv, blocks-length words16 c.as_slice.result.now)
