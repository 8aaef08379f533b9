use Rattle.netlink_packet_core.proofs.EqualityLaws.{payload_equality, message_equality}
use Rattle.netlink_packet_core.proofs.laws.law_message_equality.Goals as goal

pub returns-clause-payload : goal.returns-clause-payload
returns-clause-payload g c = λ h. payload_equality g.row.I g.I.PartialEq g.I.PartialEq-dict g.I.NetlinkInner.meaning h

pub returns-clause-message : goal.returns-clause-message
returns-clause-message g c = λ h. message_equality g.row.I g.I.PartialEq g.I.PartialEq-dict g.I.NetlinkInner.meaning h
