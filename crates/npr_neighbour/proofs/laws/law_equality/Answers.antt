use Rattle.npr_base.proofs.Messages.{message_equality}
use Rattle.npr_neighbour.specs.Message.{neighbours}
use Rattle.npr_neighbour.proofs.EqualityLaws.{address_equality, attribute_equality, fdb_equality, header_equality}
use Rattle.npr_neighbour.proofs.laws.law_equality.Goals as goal

pub returns-clause-header : goal.returns-clause-header
returns-clause-header c = header_equality

pub returns-clause-address : goal.returns-clause-address
returns-clause-address c = address_equality

pub returns-clause-fdb : goal.returns-clause-fdb
returns-clause-fdb c = fdb_equality

pub returns-clause-attribute : goal.returns-clause-attribute
returns-clause-attribute c = attribute_equality

pub returns-clause-message : goal.returns-clause-message
returns-clause-message c = message_equality neighbours header_equality attribute_equality
