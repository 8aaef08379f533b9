use Rattle.npr_base.proofs.Messages.{message_equality}
use Rattle.npr_neighbour.proofs.TableEquality.{neighbour_table_parameter_equality, neighbour_table_attribute_equality, neighbour_table_header_equality}
use Rattle.npr_neighbour.specs.NeighbourTableMessage.{neighbour_tables}
use Rattle.npr_neighbour.proofs.laws.law_table_equality_of_meanings.Goals as goal

pub returns : goal.returns
returns c = record {
  neighbour_table_parameter = neighbour_table_parameter_equality;
  neighbour_table_attribute = neighbour_table_attribute_equality;
  neighbour_table_message = message_equality neighbour_tables neighbour_table_header_equality neighbour_table_attribute_equality;
}
