use Rattle.npr_base.proofs.Messages.{message_equality}
use Rattle.npr_route.specs.Message.{routes}
use Rattle.npr_route.proofs.EqualityLaws.{attribute_equality, header_equality, metric_equality, next_hop_equality}
use Rattle.npr_route.proofs.laws.law_equality.Goals as goal

pub returns-clause-header : goal.returns-clause-header
returns-clause-header c = header_equality

pub returns-clause-metric : goal.returns-clause-metric
returns-clause-metric c = metric_equality

pub returns-clause-attribute : goal.returns-clause-attribute
returns-clause-attribute c = attribute_equality

pub returns-clause-next_hop : goal.returns-clause-next_hop
returns-clause-next_hop c = next_hop_equality

pub returns-clause-message : goal.returns-clause-message
returns-clause-message c = message_equality routes header_equality attribute_equality
