use Rattle.std.proofs.Common.{arith}
use Rattle.netlink_packet_core.proofs.Fronts.{begins}
use Rattle.netlink_packet_core.proofs.buffer.NetlinkBuffer.at_offset.Goals as goal

pub returns : goal.returns
returns c = begins c.args.offset c.args.bytes.now c.in_front-header.result c.in_front-header.ensures.0 c.in_front-header.ensures.1 (omega arith) (omega arith)
