use Rattle.npr_neighbour.proofs.TableEquality.{neighbour_table_config_equality, neighbour_table_stats_equality, neighbour_table_header_equality, neighbour_table_buffer_equality}
use Rattle.npr_neighbour.proofs.laws.law_table_equality.Goals as goal

pub returns : goal.returns
returns c = record {
  neighbour_table_config = neighbour_table_config_equality;
  neighbour_table_stats = neighbour_table_stats_equality;
  neighbour_table_header = neighbour_table_header_equality;
  neighbour_table_buffer = neighbour_table_buffer_equality;
}
