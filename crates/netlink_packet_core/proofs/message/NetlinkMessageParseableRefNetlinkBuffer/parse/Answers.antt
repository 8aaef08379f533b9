use Rattle.std.proofs.Common.{arith, refl, sym}
use Rattle.netlink_packet_core.proofs.message.NetlinkMessageParseableRefNetlinkBuffer.parse.Goals as goal

pub returns-clause-coherent : goal.returns-clause-coherent
returns-clause-coherent g c = record {
  header = (omega arith, refl);
  kind = sym c.in_ok-payload.ensures.kind;
  payload = c.in_ok-payload.ensures.coherent;
}
