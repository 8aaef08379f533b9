-- A neighbour message: its header, and attributes to the end (linux/neighbour.h, RTM_NEWNEIGH).
use Rattle.netlink_packet_route.specs.Messages.{Grammar, grammar_by}
use Rattle.template.specs.NeighbourHeader.{header, default_header}
use Rattle.template.specs.Neighbours.{family}
use Rattle.template.specs.declared.neighbour.NeighbourAttribute.{NeighbourAttribute}
use Rattle.template.specs.declared.neighbour_message.NeighbourHeader.{NeighbourHeader}

abbrev pub neighbours : Grammar NeighbourHeader NeighbourAttribute
neighbours = grammar_by family header default_header (λ h. tt)
