use Rattle.std.proofs.Common.{[], refl}
use Rattle.netlink_packet_core.proofs.Messages.{Message-front, Message-back, Message-length, Message-canonical}
use Rattle.netlink_packet_core.proofs.laws.law_written.Goals as goal

pub returns : goal.returns
returns g c = record {
  datagram = λ m h fits. ([], Message-front g.I.NetlinkInner.protocol m h fits, refl);
  back = λ m h fits. Message-back g.I.NetlinkInner.protocol m h fits;
  length = λ m. Message-length g.I.NetlinkInner.protocol m;
  canonical = λ m n p f q h is. Message-canonical g.I.NetlinkInner.protocol m n p f q h is;
}
