-- The header of a message of address labels (linux/if_addrlabel.h, struct ifaddrlblmsg): twelve bytes, one of which is padding.
use Rattle.std.proofs.Common.{refl}
use Rattle.npr_base.specs.AddressFamily.{families}
use Rattle.npr_base.specs.Fields.{one_byte, le_four, unused, family_byte, ◌before◌, ◌fills◌, ◌then◌, last, structure}
use Rattle.npr_base.specs.Layout.{Layout}
use Rattle.npr_base.specs.declared.address_family.AddressFamily.TheVariants.{Unspec}
use Rattle.npr_address.specs.contracts.address_label.AddressLabelHeader.{struct}
use Rattle.npr_address.specs.contracts.address_label.AddressLabelMessageBuffer.{struct as buffer_struct}
use Rattle.npr_address.specs.declared.address_label.AddressLabelHeader.{AddressLabelHeader}
use Rattle.npr_address.specs.declared.address_label.AddressLabelMessageBuffer.{AddressLabelMessageBuffer as Buffer}

-- in this order, little endian; the padding is not looked at, and written 0
abbrev pub header : Layout AddressLabelHeader
header =
    structure struct
    (AddressLabelHeader.family fills family_byte then AddressLabelHeader.prefix_len fills unused before one_byte
    then AddressLabelHeader.flags fills one_byte then AddressLabelHeader.index fills le_four
    then last (AddressLabelHeader.sequence fills le_four)) refl (λ v. tt)

-- the same with each field as its number
abbrev pub header_buffer : Layout Buffer
header_buffer =
    structure buffer_struct
    (Buffer.family fills one_byte then Buffer.prefix_len fills unused before one_byte then Buffer.flags fills one_byte
    then Buffer.index fills le_four then last (Buffer.sequence fills le_four)) refl (λ v. tt)

abbrev pub buffer_of : AddressLabelHeader → Buffer
buffer_of h = record {
  family = families.number h.family;
  prefix_len = h.prefix_len;
  flags = h.flags;
  index = h.index;
  sequence = h.sequence;
}

-- each field at its default
abbrev pub default_header : AddressLabelHeader
default_header = record { family = Unspec; prefix_len = 0; flags = 0; index = 0; sequence = 0 }
