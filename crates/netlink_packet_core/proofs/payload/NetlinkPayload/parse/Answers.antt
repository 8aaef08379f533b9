use Rattle.std.proofs.Common.{arith}
use Rattle.netlink_packet_core.specs.Payload.{payload_of}
use Rattle.netlink_packet_core.proofs.Payloads.{ok_one, ok_known, refused_none}
use Rattle.netlink_packet_core.proofs.payload.NetlinkPayload.parse.Goals as goal

pub returns-clause-one : goal.returns-clause-one
returns-clause-one g c = ok_one g.I.NetlinkInner.protocol (payload_of g.I.NetlinkInner.meaning) c.args.header.message_type c.args.bytes.now c.read_payload.result c.read_payload.ensures.ok

pub returns-clause-coherent : goal.returns-clause-coherent
returns-clause-coherent g c =
    (ok_known g.I.NetlinkInner.protocol (payload_of g.I.NetlinkInner.meaning) c.args.header.message_type c.args.bytes.now (omega arith)
    (λ i. omega (arith, c.type_inv.bytes i)) c.read_payload.result c.read_payload.ensures.ok).0

pub returns-clause-kind : goal.returns-clause-kind
returns-clause-kind g c =
    (ok_known g.I.NetlinkInner.protocol (payload_of g.I.NetlinkInner.meaning) c.args.header.message_type c.args.bytes.now (omega arith)
    (λ i. omega (arith, c.type_inv.bytes i)) c.read_payload.result c.read_payload.ensures.ok).1

pub returns-clause-none : goal.returns-clause-none
returns-clause-none g c =
    refused_none g.I.NetlinkInner.protocol (payload_of g.I.NetlinkInner.meaning) c.args.header.message_type c.args.bytes.now c.read_payload.result c.read_payload.ensures.refused
