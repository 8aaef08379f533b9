use Rattle.netlink_packet_core.proofs.Walks.{Walk-finds, Finds-length, Walk-is-datagram, Datagram-is-walk, Walk-is-stop, Stop-is-walk}
use Rattle.netlink_packet_core.proofs.WholeWalks.{Walk-one}
use Rattle.netlink_packet_core.proofs.laws.law_walk.Goals as goal

pub returns : goal.returns
returns c = record {
  datagram = λ bytes xs. (λ p. Walk-is-datagram xs bytes p, λ p. Datagram-is-walk xs bytes p);
  stop = λ bytes xs e. (λ p. Walk-is-stop xs bytes e p, λ p. Stop-is-walk xs bytes e p);
  any = λ bytes steps last p. let h = Walk-finds bytes steps last p in (h.0, h.1, Finds-length bytes steps last.bytes h.0 h.1);
  one = Walk-one;
}
