use Rattle.std.proofs.Common.{arith}
use Rattle.npr_base.proofs.BlockLengths.{blocks-length}
use Rattle.npr_tc_actions.specs.PeditKey.{pedit_key_width}
use Rattle.npr_tc_actions.proofs.pedit_selector.TcPeditSelector.len.Goals as goal

pub blocks_len-requires : goal.blocks_len-requires
blocks_len-requires c = omega (arith, c.as_slice.type_inv, blocks-length pedit_key_width c.as_slice.result.now)

pub overflow_add-result : goal.overflow_add-result
overflow_add-result c = omega (arith, c.as_slice.type_inv, c.blocks_len.ensures, blocks-length pedit_key_width c.as_slice.result.now)
