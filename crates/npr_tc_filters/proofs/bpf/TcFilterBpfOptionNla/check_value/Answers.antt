use Rattle.std.proofs.Common.{arith}
use Rattle.npr_base.proofs.BlockLengths.{blocks-length}
use Rattle.npr_tc_actions.specs.BpfInstruction.{instruction_width}
use Rattle.npr_tc_filters.proofs.bpf.TcFilterBpfOptionNla.check_value.Goals as goal

pub blocks_len-requires : goal.blocks_len-requires
blocks_len-requires c = omega (arith, c.as_slice.type_inv, blocks-length instruction_width c.as_slice.result.now)
