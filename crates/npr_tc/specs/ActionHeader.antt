-- The header of a message of actions (linux/rtnetlink.h, struct tcamsg): four bytes, three of which are padding.
use Rattle.std.proofs.Common.{refl}
use Rattle.npr_base.specs.AddressFamily.{families}
use Rattle.npr_base.specs.Fields.{one_byte, unused, family_byte, ◌fills◌, last, structure}
use Rattle.npr_base.specs.Layout.{Layout}
use Rattle.npr_base.specs.MoreFields.{◌behind◌}
use Rattle.npr_base.specs.declared.address_family.AddressFamily.TheVariants.{Unspec}
use Rattle.npr_tc.specs.contracts.action_header.TcActionMessageHeader.{struct}
use Rattle.npr_tc.specs.contracts.action_header.TcActionMessageBuffer.{struct as buffer_struct}
use Rattle.npr_tc.specs.declared.action_header.TcActionMessageHeader.{TcActionMessageHeader}
use Rattle.npr_tc.specs.declared.action_header.TcActionMessageBuffer.{TcActionMessageBuffer as Buffer}

-- in this order; the padding is not looked at, and written 0
abbrev pub header : Layout TcActionMessageHeader
header =
    structure struct
    (last (TcActionMessageHeader.family fills family_byte behind unused behind unused behind unused)) refl (λ v. tt)

-- the same with each field as its number
abbrev pub header_buffer : Layout Buffer
header_buffer =
    structure buffer_struct
    (last (Buffer.family fills one_byte behind unused behind unused behind unused)) refl (λ v. tt)

abbrev pub buffer_of : TcActionMessageHeader → Buffer
buffer_of h = record {
  family = families.number h.family;
}

-- each field at its default
abbrev pub default_header : TcActionMessageHeader
default_header = record { family = Unspec }
