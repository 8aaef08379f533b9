-- The header of a message of tables of neighbours (linux/neighbour.h, struct ndtmsg): four bytes, three of which are padding.
use Rattle.std.proofs.Common.{refl}
use Rattle.npr_base.specs.AddressFamily.{families}
use Rattle.npr_base.specs.Fields.{one_byte, unused, family_byte, ◌fills◌, last, structure}
use Rattle.npr_base.specs.Layout.{Layout}
use Rattle.npr_base.specs.MoreFields.{◌behind◌}
use Rattle.npr_base.specs.declared.address_family.AddressFamily.TheVariants.{Unspec}
use Rattle.npr_neighbour.specs.contracts.neighbour_table.NeighbourTableHeader.{struct}
use Rattle.npr_neighbour.specs.contracts.neighbour_table.NeighbourTableMessageBuffer.{struct as buffer_struct}
use Rattle.npr_neighbour.specs.declared.neighbour_table.NeighbourTableHeader.{NeighbourTableHeader}
use Rattle.npr_neighbour.specs.declared.neighbour_table.NeighbourTableMessageBuffer.{NeighbourTableMessageBuffer as Buffer}

-- in this order; the padding is not looked at, and written 0
abbrev pub header : Layout NeighbourTableHeader
header =
    structure struct
    (last (NeighbourTableHeader.family fills family_byte behind unused behind unused behind unused)) refl (λ v. tt)

-- the same with each field as its number
abbrev pub header_buffer : Layout Buffer
header_buffer =
    structure buffer_struct
    (last (Buffer.family fills one_byte behind unused behind unused behind unused)) refl (λ v. tt)

abbrev pub buffer_of : NeighbourTableHeader → Buffer
buffer_of h = record {
  family = families.number h.family;
}

-- each field at its default
abbrev pub default_header : NeighbourTableHeader
default_header = record { family = Unspec }
