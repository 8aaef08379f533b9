use Rattle.netlink_packet_core.proofs.EqualityLaws.{attribute_equality, done_equality, error_equality}
use Rattle.netlink_packet_core.proofs.laws.law_equality.Goals as goal

pub returns-clause-attribute : goal.returns-clause-attribute
returns-clause-attribute c = attribute_equality

pub returns-clause-error : goal.returns-clause-error
returns-clause-error c = error_equality

pub returns-clause-done : goal.returns-clause-done
returns-clause-done c = done_equality
