-- A message of tables of neighbours: its header, and attributes to the end (linux/neighbour.h).
use Rattle.npr_base.specs.Message.{Grammar, grammar_by}
use Rattle.npr_neighbour.specs.NeighbourTableHeader.{header, default_header}
use Rattle.npr_neighbour.specs.NeighbourTableAttribute.{family}
use Rattle.npr_neighbour.specs.declared.neighbour_table.NeighbourTableHeader.{NeighbourTableHeader}
use Rattle.npr_neighbour.specs.declared.neighbour_table_attribute.NeighbourTableAttribute.{NeighbourTableAttribute}

abbrev pub neighbour_tables : Grammar NeighbourTableHeader NeighbourTableAttribute
neighbour_tables = grammar_by family header default_header (λ h. tt)
