-- The header of a route message (linux/rtnetlink.h, struct rtmsg): eight bytes and a number of four.
use Rattle.std.proofs.Common.{refl}
use Rattle.npr_base.specs.Fields.{one_byte, le_four, family_byte, ◌holding◌, ◌fills◌, ◌then◌, last, structure}
use Rattle.npr_base.specs.Layout.{Layout}
use Rattle.npr_base.specs.AddressFamily.{families}
use Rattle.npr_base.specs.declared.address_family.AddressFamily.TheVariants.{Unspec}
use Rattle.npr_route_values.specs.RouteFlags.{route_flag_bits}
use Rattle.npr_route_values.specs.RouteProtocol.{route_protocols}
use Rattle.npr_route_values.specs.RouteScope.{route_scopes}
use Rattle.npr_route_values.specs.RouteType.{route_types}
use Rattle.npr_route_values.specs.declared.route_protocol.RouteProtocol.TheVariants.{Unspec as NoProtocol}
use Rattle.npr_route_values.specs.declared.route_scope.RouteScope.TheVariants.{Universe}
use Rattle.npr_route_values.specs.declared.route_type.RouteType.TheVariants.{Unspec as NoType}
use Rattle.npr_route.specs.contracts.header.RouteHeader.{struct}
use Rattle.npr_route.specs.contracts.header.RouteMessageBuffer.{struct as buffer_struct}
use Rattle.npr_route.specs.declared.header.RouteHeader.{RouteHeader}
use Rattle.npr_route.specs.declared.header.RouteMessageBuffer.{RouteMessageBuffer as Buffer}

-- in this order, the flags little endian
abbrev pub header : Layout RouteHeader
header =
    structure struct
    (RouteHeader.address_family fills family_byte then RouteHeader.destination_prefix_length fills one_byte
    then RouteHeader.source_prefix_length fills one_byte then RouteHeader.tos fills one_byte then RouteHeader.table fills one_byte
    then RouteHeader.protocol fills one_byte holding route_protocols then RouteHeader.scope fills one_byte holding route_scopes
    then RouteHeader.kind fills one_byte holding route_types then last (RouteHeader.flags fills le_four holding route_flag_bits)) refl (λ v. tt)

-- the same with each field as its number
abbrev pub header_buffer : Layout Buffer
header_buffer =
    structure buffer_struct
    (Buffer.address_family fills one_byte then Buffer.destination_prefix_length fills one_byte then Buffer.source_prefix_length fills one_byte
    then Buffer.tos fills one_byte then Buffer.table fills one_byte then Buffer.protocol fills one_byte then Buffer.scope fills one_byte
    then Buffer.kind fills one_byte then last (Buffer.flags fills le_four)) refl (λ v. tt)

abbrev pub buffer_of : RouteHeader → Buffer
buffer_of h = record {
  address_family = families.number h.address_family;
  destination_prefix_length = h.destination_prefix_length;
  source_prefix_length = h.source_prefix_length;
  tos = h.tos;
  table = h.table;
  protocol = route_protocols.number h.protocol;
  scope = route_scopes.number h.scope;
  kind = route_types.number h.kind;
  flags = route_flag_bits.number h.flags;
}

-- each field at its default
abbrev pub default_header : RouteHeader
default_header = record {
  address_family = Unspec;
  destination_prefix_length = 0;
  source_prefix_length = 0;
  tos = 0;
  table = 0;
  protocol = NoProtocol;
  scope = Universe;
  kind = NoType;
  flags = route_flag_bits.of 0;
}
