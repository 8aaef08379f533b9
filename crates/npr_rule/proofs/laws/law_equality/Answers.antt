use Rattle.npr_base.proofs.Messages.{message_equality}
use Rattle.npr_rule.specs.Message.{rules}
use Rattle.npr_rule.proofs.EqualityLaws.{attribute_equality, header_equality}
use Rattle.npr_rule.proofs.laws.law_equality.Goals as goal

pub returns-clause-header : goal.returns-clause-header
returns-clause-header c = header_equality

pub returns-clause-attribute : goal.returns-clause-attribute
returns-clause-attribute c = attribute_equality

pub returns-clause-message : goal.returns-clause-message
returns-clause-message c = message_equality rules header_equality attribute_equality
