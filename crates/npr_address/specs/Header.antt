-- The header of an address message (linux/if_addr.h, struct ifaddrmsg): four bytes and a number of four.
use Rattle.std.proofs.Common.{refl}
use Rattle.npr_base.specs.Fields.{one_byte, le_four, family_byte, ◌holding◌, ◌fills◌, ◌then◌, last, structure}
use Rattle.npr_base.specs.Layout.{Layout}
use Rattle.npr_base.specs.AddressFamily.{families}
use Rattle.npr_base.specs.declared.address_family.AddressFamily.TheVariants.{Unspec}
use Rattle.npr_address.specs.contracts.header.AddressHeader.{struct}
use Rattle.npr_address.specs.contracts.header.AddressMessageBuffer.{struct as buffer_struct}
use Rattle.npr_address.specs.declared.addr_scope.AddressScope.TheVariants.{Universe}
use Rattle.npr_address.specs.AddressFlags.{header_flag_bits}
use Rattle.npr_address.specs.AddressScope.{scopes}
use Rattle.npr_address.specs.declared.header.AddressHeader.{AddressHeader}
use Rattle.npr_address.specs.declared.header.AddressMessageBuffer.{AddressMessageBuffer as Buffer}

-- in this order, the index little endian
abbrev pub header : Layout AddressHeader
header =
    structure struct
    (AddressHeader.family fills family_byte then AddressHeader.prefix_len fills one_byte
    then AddressHeader.flags fills one_byte holding header_flag_bits then AddressHeader.scope fills one_byte holding scopes
    then last (AddressHeader.index fills le_four)) refl (λ v. tt)

-- the same with each field as its number
abbrev pub header_buffer : Layout Buffer
header_buffer =
    structure buffer_struct
    (Buffer.family fills one_byte then Buffer.prefix_len fills one_byte then Buffer.flags fills one_byte then Buffer.scope fills one_byte
    then last (Buffer.index fills le_four)) refl (λ v. tt)

abbrev pub buffer_of : AddressHeader → Buffer
buffer_of h = record {
  family = families.number h.family;
  prefix_len = h.prefix_len;
  flags = header_flag_bits.number h.flags;
  scope = scopes.number h.scope;
  index = h.index;
}

-- each field at its default
abbrev pub default_header : AddressHeader
default_header = record { family = Unspec; prefix_len = 0; flags = header_flag_bits.of 0; scope = Universe; index = 0 }
