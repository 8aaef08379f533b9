-- The header of a next hop message (linux/nexthop.h, struct nhmsg): three bytes, one that is not looked at, and a number of four.
use Rattle.std.proofs.Common.{refl}
use Rattle.npr_base.specs.AddressFamily.{families}
use Rattle.npr_base.specs.Fields.{one_byte, le_four, unused, family_byte, ◌holding◌, ◌before◌, ◌fills◌, ◌then◌, last, structure}
use Rattle.npr_base.specs.Layout.{Layout}
use Rattle.npr_base.specs.declared.address_family.AddressFamily.TheVariants.{Unspec}
use Rattle.npr_route_values.specs.RouteFlags.{route_flag_bits}
use Rattle.npr_route_values.specs.RouteProtocol.{route_protocols}
use Rattle.npr_route_values.specs.RouteScope.{route_scopes}
use Rattle.npr_route_values.specs.declared.route_protocol.RouteProtocol.TheVariants.{Unspec as NoProtocol}
use Rattle.npr_route_values.specs.declared.route_scope.RouteScope.TheVariants.{Universe}
use Rattle.npr_nexthop.specs.contracts.header.NextHopHeader.{struct}
use Rattle.npr_nexthop.specs.contracts.header.NextHopMessageBuffer.{struct as buffer_struct}
use Rattle.npr_nexthop.specs.declared.header.NextHopHeader.{NextHopHeader}
use Rattle.npr_nexthop.specs.declared.header.NextHopMessageBuffer.{NextHopMessageBuffer as Buffer}

-- in this order, the flags little endian; the unused byte is written 0
abbrev pub header : Layout NextHopHeader
header =
    structure struct
    (NextHopHeader.family fills family_byte then NextHopHeader.scope fills one_byte holding route_scopes
    then NextHopHeader.protocol fills one_byte holding route_protocols
    then last (NextHopHeader.flags fills unused before le_four holding route_flag_bits)) refl (λ v. tt)

-- the same with each field as its number
abbrev pub header_buffer : Layout Buffer
header_buffer =
    structure buffer_struct
    (Buffer.family fills one_byte then Buffer.scope fills one_byte then Buffer.protocol fills one_byte
    then last (Buffer.flags fills unused before le_four)) refl (λ v. tt)

abbrev pub buffer_of : NextHopHeader → Buffer
buffer_of h = record {
  family = families.number h.family;
  scope = route_scopes.number h.scope;
  protocol = route_protocols.number h.protocol;
  flags = route_flag_bits.number h.flags;
}

-- each field at its default
abbrev pub default_header : NextHopHeader
default_header = record { family = Unspec; scope = Universe; protocol = NoProtocol; flags = route_flag_bits.of 0 }
