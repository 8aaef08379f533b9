-- The header of a neighbour message (linux/neighbour.h, struct ndmsg): twelve bytes, three of which are padding.
use Rattle.std.proofs.Common.{refl}
use Rattle.netlink_packet_route.specs.Fields.{one_byte, le_two, le_four, unused, family_byte, ◌holding◌, ◌before◌, ◌fills◌, ◌then◌, last, structure}
use Rattle.netlink_packet_route.specs.Layout.{Layout}
use Rattle.netlink_packet_route.specs.RouteType.{route_types}
use Rattle.netlink_packet_route.specs.declared.AddressFamily.TheVariants.{Unspec}
use Rattle.netlink_packet_route.specs.declared.route.RouteType.TheVariants.{Unspec as NoType}
use Rattle.template.specs.contracts.neighbour_message.NeighbourHeader.{struct}
use Rattle.template.specs.declared.neighbour_message.NeighbourHeader.{NeighbourHeader}

-- the fields in this order, little endian; the padding is not looked at, and written 0
abbrev pub header : Layout NeighbourHeader
header =
    structure struct
    (NeighbourHeader.family fills family_byte then NeighbourHeader.ifindex fills unused before unused before unused before le_four
    then NeighbourHeader.state fills le_two then NeighbourHeader.flags fills one_byte
    then last (NeighbourHeader.kind fills one_byte holding route_types)) refl (λ v. tt)

-- each field at its default
abbrev pub default_header : NeighbourHeader
default_header = record { family = Unspec; ifindex = 0; state = 0; flags = 0; kind = NoType }
