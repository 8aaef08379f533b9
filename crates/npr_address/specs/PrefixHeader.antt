-- The header of a message of prefixes (linux/rtnetlink.h, struct prefixmsg): twelve bytes, four of which are padding.
use Rattle.std.specs.Prelude.{pos}
use Rattle.std.proofs.Common.{refl}
use Rattle.npr_base.specs.Fields.{one_byte, le_two, unused, ◌before◌, ◌fills◌, ◌then◌, last, structure}
use Rattle.npr_base.specs.Layout.{Layout}
use Rattle.npr_base.specs.MoreFields.{signed_four, ◌behind◌}
use Rattle.npr_address.specs.contracts.prefix.PrefixHeader.{struct}
use Rattle.npr_address.specs.contracts.prefix.PrefixMessageBuffer.{struct as buffer_struct}
use Rattle.npr_address.specs.declared.prefix.PrefixHeader.{PrefixHeader}
use Rattle.npr_address.specs.declared.prefix.PrefixMessageBuffer.{PrefixMessageBuffer as Buffer}

-- in this order, little endian; the padding is not looked at, and written 0
abbrev pub header : Layout PrefixHeader
header =
    structure struct
    (PrefixHeader.prefix_family fills one_byte then PrefixHeader.ifindex fills unused before unused before unused before signed_four
    then PrefixHeader.prefix_type fills one_byte then PrefixHeader.prefix_len fills one_byte
    then last (PrefixHeader.flags fills one_byte behind unused)) refl (λ v. tt)

-- the same with the same numbers, and the padding kept
abbrev pub header_buffer : Layout Buffer
header_buffer =
    structure buffer_struct
    (Buffer.prefix_family fills one_byte then Buffer.pad1 fills one_byte then Buffer.pad2 fills le_two then Buffer.ifindex fills signed_four
    then Buffer.prefix_type fills one_byte then Buffer.prefix_len fills one_byte then Buffer.flags fills one_byte
    then last (Buffer.pad3 fills one_byte)) refl (λ v. tt)

abbrev pub buffer_of : PrefixHeader → Buffer
buffer_of h = record {
  prefix_family = h.prefix_family;
  pad1 = 0;
  pad2 = 0;
  ifindex = h.ifindex;
  prefix_type = h.prefix_type;
  prefix_len = h.prefix_len;
  flags = h.flags;
  pad3 = 0;
}

-- each field at its default
abbrev pub default_header : PrefixHeader
default_header = record { prefix_family = 0; ifindex = pos 0; prefix_type = 0; prefix_len = 0; flags = 0 }
