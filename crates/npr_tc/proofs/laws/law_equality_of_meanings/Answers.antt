use Rattle.npr_base.proofs.Messages.{message_equality}
use Rattle.npr_tc.specs.ActionMessage.{messages as action_messages}
use Rattle.npr_tc.specs.Message.{messages}
use Rattle.npr_tc.proofs.EqualityLaws.{option_equality, attribute_equality, header_equality, action_attribute_equality, action_header_equality}
use Rattle.npr_tc.proofs.laws.law_equality_of_meanings.Goals as goal

pub returns : goal.returns
returns c = record {
  option = option_equality;
  attribute = attribute_equality;
  message = message_equality messages header_equality attribute_equality;
  action_attribute = action_attribute_equality;
  action_message = message_equality action_messages action_header_equality action_attribute_equality;
}
