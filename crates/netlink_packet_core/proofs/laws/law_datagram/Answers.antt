use Rattle.std.proofs.Common.{length}
use Rattle.netlink_packet_core.proofs.FrontLaws.{Datagram-same, Datagram-sound, Stop-same, Datagrams-joined}
use Rattle.netlink_packet_core.proofs.WholeWalks.{Datagram-or-stop}
use Rattle.netlink_packet_core.proofs.laws.law_datagram.Goals as goal

pub returns : goal.returns
returns c = record {
  one = λ bytes xs ys p q. Datagram-same xs ys bytes p q;
  none = λ bytes xs ys e p (rest, q, left, bad). Datagram-sound (length bytes) xs ys bytes rest e p q left bad;
  first = λ bytes xs ys e f (r, p, left, bad) (s, q, more, worse). Stop-same (length bytes) xs ys bytes r s e f p q left more bad worse;
  joined = λ a b xs ys whole p q. Datagrams-joined xs ys a b whole p q;
  each = Datagram-or-stop;
}
