-- The header of a message of statistics (linux/if_link.h, struct if_stats_msg): twelve bytes, three of which are padding.
use Rattle.std.proofs.Common.{refl}
use Rattle.npr_base.specs.AddressFamily.{families}
use Rattle.npr_base.specs.Fields.{one_byte, le_four, unused, family_byte, ◌before◌, ◌fills◌, ◌then◌, last, structure}
use Rattle.npr_base.specs.Layout.{Layout}
use Rattle.npr_base.specs.declared.address_family.AddressFamily.TheVariants.{Unspec}
use Rattle.npr_stats.specs.contracts.header.StatsHeader.{struct}
use Rattle.npr_stats.specs.contracts.header.StatsMessageBuffer.{struct as buffer_struct}
use Rattle.npr_stats.specs.declared.header.StatsHeader.{StatsHeader}
use Rattle.npr_stats.specs.declared.header.StatsMessageBuffer.{StatsMessageBuffer as Buffer}

-- in this order, little endian; the padding is not looked at, and written 0
abbrev pub header : Layout StatsHeader
header =
    structure struct
    (StatsHeader.family fills family_byte then StatsHeader.index fills unused before unused before unused before le_four
    then last (StatsHeader.filter_mask fills le_four)) refl (λ v. tt)

-- the same with each field as its number
abbrev pub header_buffer : Layout Buffer
header_buffer =
    structure buffer_struct
    (Buffer.family fills one_byte then Buffer.index fills unused before unused before unused before le_four
    then last (Buffer.filter_mask fills le_four)) refl (λ v. tt)

abbrev pub buffer_of : StatsHeader → Buffer
buffer_of h = record {
  family = families.number h.family;
  index = h.index;
  filter_mask = h.filter_mask;
}

-- each field at its default
abbrev pub default_header : StatsHeader
default_header = record { family = Unspec; index = 0; filter_mask = 0 }
