-- The header of a message of traffic control (linux/rtnetlink.h, struct tcmsg): the family, three bytes that are not looked at, and four
-- numbers of four.
use Rattle.std.specs.Prelude.{pos}
use Rattle.std.proofs.Common.{refl}
use Rattle.npr_base.specs.AddressFamily.{families}
use Rattle.npr_base.specs.Fields.{one_byte, le_four, unused, family_byte, ◌holding◌, ◌before◌, ◌fills◌, ◌then◌, last, structure}
use Rattle.npr_base.specs.Layout.{Layout}
use Rattle.npr_base.specs.MoreFields.{signed_four}
use Rattle.npr_base.specs.declared.address_family.AddressFamily.TheVariants.{Unspec}
use Rattle.npr_tc_values.specs.Handle.{handles}
use Rattle.npr_tc.specs.contracts.header.TcHeader.{struct}
use Rattle.npr_tc.specs.contracts.header.TcMessageBuffer.{struct as buffer_struct}
use Rattle.npr_tc.specs.declared.header.TcHeader.{TcHeader}
use Rattle.npr_tc.specs.declared.header.TcMessageBuffer.{TcMessageBuffer as Buffer}

-- in this order, little endian; the unused bytes are written 0
abbrev pub header : Layout TcHeader
header =
    structure struct
    (TcHeader.family fills family_byte then TcHeader.index fills unused before unused before unused before signed_four
    then TcHeader.handle fills le_four holding handles then TcHeader.parent fills le_four holding handles
    then last (TcHeader.info fills le_four)) refl (λ v. tt)

-- the same with each field as its number
abbrev pub header_buffer : Layout Buffer
header_buffer =
    structure buffer_struct
    (Buffer.family fills one_byte then Buffer.index fills unused before unused before unused before signed_four then Buffer.handle fills le_four
    then Buffer.parent fills le_four then last (Buffer.info fills le_four)) refl (λ v. tt)

abbrev pub buffer_of : TcHeader → Buffer
buffer_of h = record {
  family = families.number h.family;
  index = h.index;
  handle = handles.number h.handle;
  parent = handles.number h.parent;
  info = h.info;
}

-- each field at its default
abbrev pub default_header : TcHeader
default_header = record {
  family = Unspec;
  index = pos 0;
  handle = record { major = 0; minor = 0 };
  parent = record { major = 0; minor = 0 };
  info = 0;
}
