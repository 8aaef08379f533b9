use Rattle.netlink_packet_core.proofs.Messages.{Message-one, Message-sound}
use Rattle.netlink_packet_core.proofs.laws.law_message.Goals as goal

pub returns-clause-one : goal.returns-clause-one
returns-clause-one g c = λ x m n p q. Message-one g.I.NetlinkInner.protocol x m n p q

pub returns-clause-none : goal.returns-clause-none
returns-clause-none g c = λ x m e p bad. Message-sound g.I.NetlinkInner.protocol x m e p bad
