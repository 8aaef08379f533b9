use Rattle.npr_base.proofs.Messages.{message_equality}
use Rattle.npr_namespace.proofs.EqualityLaws.{nsid_attribute_equality, netconf_attribute_equality, nsid_header_equality, netconf_header_equality}
use Rattle.npr_namespace.specs.NsidMessage.{nsids}
use Rattle.npr_namespace.specs.NetconfMessage.{netconfs}
use Rattle.npr_namespace.proofs.laws.law_equality_of_meanings.Goals as goal

pub returns : goal.returns
returns c = record {
  nsid_attribute = nsid_attribute_equality;
  netconf_attribute = netconf_attribute_equality;
  nsid_message = message_equality nsids nsid_header_equality nsid_attribute_equality;
  netconf_message = message_equality netconfs netconf_header_equality netconf_attribute_equality;
}
