use Rattle.std.proofs.Common.{arith}
use Rattle.npr_base.proofs.BlockLengths.{blocks-length}
use Rattle.npr_nexthop.specs.Group.{group_entry_width}
use Rattle.npr_nexthop.proofs.attribute.NextHopAttributeNla.check_value.Goals as goal

pub blocks_len-requires : goal.blocks_len-requires
blocks_len-requires c = omega (arith, c.as_slice-in-Group.type_inv, blocks-length group_entry_width c.as_slice-in-Group.result.now)
