-- The header of a neighbour message (linux/neighbour.h, struct ndmsg): twelve bytes, three of which are padding.
use Rattle.std.proofs.Common.{refl}
use Rattle.npr_base.specs.AddressFamily.{families}
use Rattle.npr_base.specs.Fields.{one_byte, le_two, le_four, unused, family_byte, ◌holding◌, ◌before◌, ◌fills◌, ◌then◌, last, structure}
use Rattle.npr_base.specs.Layout.{Layout}
use Rattle.npr_base.specs.declared.address_family.AddressFamily.TheVariants.{Unspec}
use Rattle.npr_route_values.specs.RouteType.{route_types}
use Rattle.npr_route_values.specs.declared.route_type.RouteType.TheVariants.{Unspec as NoType}
use Rattle.npr_neighbour.specs.Flags.{flag_bits}
use Rattle.npr_neighbour.specs.State.{state_bits}
use Rattle.npr_neighbour.specs.contracts.header.NeighbourHeader.{struct}
use Rattle.npr_neighbour.specs.contracts.header.NeighbourMessageBuffer.{struct as buffer_struct}
use Rattle.npr_neighbour.specs.declared.header.NeighbourHeader.{NeighbourHeader}
use Rattle.npr_neighbour.specs.declared.header.NeighbourMessageBuffer.{NeighbourMessageBuffer as Buffer}

-- in this order, little endian; the padding is not looked at, and written 0
abbrev pub header : Layout NeighbourHeader
header =
    structure struct
    (NeighbourHeader.family fills family_byte then NeighbourHeader.ifindex fills unused before unused before unused before le_four
    then NeighbourHeader.state fills le_two holding state_bits then NeighbourHeader.flags fills one_byte holding flag_bits
    then last (NeighbourHeader.kind fills one_byte holding route_types)) refl (λ v. tt)

-- the same with each field as its number
abbrev pub header_buffer : Layout Buffer
header_buffer =
    structure buffer_struct
    (Buffer.family fills one_byte then Buffer.ifindex fills unused before unused before unused before le_four then Buffer.state fills le_two
    then Buffer.flags fills one_byte then last (Buffer.kind fills one_byte)) refl (λ v. tt)

abbrev pub buffer_of : NeighbourHeader → Buffer
buffer_of h = record {
  family = families.number h.family;
  ifindex = h.ifindex;
  state = state_bits.number h.state;
  flags = flag_bits.number h.flags;
  kind = route_types.number h.kind;
}

-- each field at its default
abbrev pub default_header : NeighbourHeader
default_header = record { family = Unspec; ifindex = 0; state = state_bits.of 0; flags = flag_bits.of 0; kind = NoType }
