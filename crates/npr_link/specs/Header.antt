-- The header of a link message (linux/rtnetlink.h, struct ifinfomsg): sixteen bytes, one of which is padding.
use Rattle.std.proofs.Common.{refl}
use Rattle.npr_base.specs.Fields.{one_byte, le_two, le_four, unused, family_byte, ◌holding◌, ◌before◌, ◌fills◌, ◌then◌, last, structure}
use Rattle.npr_base.specs.Layout.{Layout}
use Rattle.npr_base.specs.AddressFamily.{families}
use Rattle.npr_base.specs.declared.address_family.AddressFamily.TheVariants.{Unspec}
use Rattle.npr_link.specs.Flags.{link_flag_bits}
use Rattle.npr_link.specs.LayerType.{layer_types}
use Rattle.npr_link.specs.contracts.header.LinkHeader.{struct}
use Rattle.npr_link.specs.contracts.header.LinkMessageBuffer.{struct as buffer_struct}
use Rattle.npr_link.specs.declared.header.LinkHeader.{LinkHeader}
use Rattle.npr_link.specs.declared.header.LinkMessageBuffer.{LinkMessageBuffer as Buffer}
use Rattle.npr_link.specs.declared.layer_type.LinkLayerType.TheVariants.{Netrom}

-- in this order, little endian; the padding is not looked at, and written 0
abbrev pub header : Layout LinkHeader
header =
    structure struct
    (LinkHeader.interface_family fills family_byte then LinkHeader.link_layer_type fills unused before le_two holding layer_types
    then LinkHeader.index fills le_four then LinkHeader.flags fills le_four holding link_flag_bits
    then last (LinkHeader.change_mask fills le_four holding link_flag_bits)) refl (λ v. tt)

-- the same with each field as its number, and the padding kept
abbrev pub header_buffer : Layout Buffer
header_buffer =
    structure buffer_struct
    (Buffer.interface_family fills one_byte then Buffer.reserved_1 fills one_byte then Buffer.link_layer_type fills le_two
    then Buffer.link_index fills le_four then Buffer.flags fills le_four then last (Buffer.change_mask fills le_four)) refl (λ v. tt)

abbrev pub buffer_of : LinkHeader → Buffer
buffer_of h = record {
  interface_family = families.number h.interface_family;
  reserved_1 = 0;
  link_layer_type = layer_types.number h.link_layer_type;
  link_index = h.index;
  flags = link_flag_bits.number h.flags;
  change_mask = link_flag_bits.number h.change_mask;
}

-- each field at its default
abbrev pub default_header : LinkHeader
default_header = record {
  interface_family = Unspec;
  link_layer_type = Netrom;
  index = 0;
  flags = link_flag_bits.of 0;
  change_mask = link_flag_bits.of 0;
}
