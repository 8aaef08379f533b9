-- A neighbour message: its header, and attributes to the end, read under the header's family (linux/neighbour.h).
use Rattle.npr_base.specs.Message.{Grammar, grammar_by}
use Rattle.npr_neighbour.specs.Attribute.{family}
use Rattle.npr_neighbour.specs.Header.{header, default_header}
use Rattle.npr_neighbour.specs.declared.header.NeighbourHeader.{NeighbourHeader}
use Rattle.npr_neighbour.specs.declared.attribute.NeighbourAttribute.{NeighbourAttribute}

abbrev pub neighbours : Grammar NeighbourHeader NeighbourAttribute
neighbours = grammar_by family header default_header (λ h. h.family)
