use Rattle.npr_base.proofs.Messages.{message_equality}
use Rattle.npr_address.proofs.LabelEquality.{address_label_attribute_equality, prefix_attribute_equality, address_label_header_equality, prefix_header_equality}
use Rattle.npr_address.specs.AddressLabelMessage.{address_labels}
use Rattle.npr_address.specs.PrefixMessage.{prefixes}
use Rattle.npr_address.proofs.laws.law_label_equality_of_meanings.Goals as goal

pub returns : goal.returns
returns c = record {
  address_label_attribute = address_label_attribute_equality;
  prefix_attribute = prefix_attribute_equality;
  address_label_message = message_equality address_labels address_label_header_equality address_label_attribute_equality;
  prefix_message = message_equality prefixes prefix_header_equality prefix_attribute_equality;
}
