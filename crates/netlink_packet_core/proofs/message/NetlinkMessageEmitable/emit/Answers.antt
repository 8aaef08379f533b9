use Rattle.std.proofs.Common.{◌+◌, ◌-◌, ℕ, arith, refl, length, replicate, subst, length-append}
use Rattle.std.proofs.lemmas.List.{length-replicate}
use Rattle.npr_base.specs.Framing.{Writes, pad}
use Rattle.netlink_packet_core.specs.Header.{header}
use Rattle.netlink_packet_core.specs.Message.{final_header, message_of}
use Rattle.netlink_packet_core.specs.Payload.{payload_of, payload_bytes}
use Rattle.netlink_packet_core.specs.declared.header.NetlinkHeader.{NetlinkHeader}
use Rattle.netlink_packet_core.proofs.Writing.{Writes-message}
use Rattle.netlink_packet_core.proofs.message.NetlinkMessageEmitable.emit.Goals as goal

pub returns : goal.returns
returns g c =
    Writes-message c.args.out.now c.emit.new.out c.emit-2.new.out c.write_zeros.new.out
    (header.encode (final_header g.I.NetlinkInner.protocol (message_of g.I.NetlinkInner.meaning c.args.self.now)))
    (payload_bytes g.I.NetlinkInner.protocol (payload_of g.I.NetlinkInner.meaning c.args.self.now.payload))
    c.buffer_len-len.result (c.next_multiple_of.result - (16 + c.buffer_len-len.result)) refl c.buffer_len-len.ensures (omega (
      arith,
      c.requires.room,
      length-append (payload_bytes g.I.NetlinkInner.protocol (payload_of g.I.NetlinkInner.meaning c.args.self.now.payload))
          (replicate (pad (length (payload_bytes g.I.NetlinkInner.protocol (payload_of g.I.NetlinkInner.meaning c.args.self.now.payload)))) 0),
      length-replicate {A = ℕ},
    )) (omega (arith, c.next_multiple_of.ensures.value, c.buffer_len-len.ensures))
    (subst (λ (h : NetlinkHeader). Writes c.args.out.now c.emit.new.out (header.encode h)) c.final_header.ensures c.emit.ensures) c.emit-2.ensures c.write_zeros.ensures
