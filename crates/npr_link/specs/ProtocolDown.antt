-- Who holds a link down (linux/if_link.h, IFLA_PROTO_DOWN_REASON_*), by the table.
use Rattle.npr_base.specs.declared.attribute_set.AttributeSet.TheVariants.{LinkProtocolDownReason as AtProtocolDown}
use Rattle.npr_base.specs.Tables.{EnumTable, table_of, row, others, ◌or◌, exactly, le32, value, refl, Reading, Family, writing_of, attributes_of}
use Rattle.npr_base.specs.Tables.{family_of_table}
use Rattle.npr_link.specs.contracts.protocol_down.LinkProtocolDownReason.{enum}
use Rattle.npr_link.specs.declared.protocol_down.LinkProtocolDownReason.{LinkProtocolDownReason}

-- the table, in the order of the variants
abbrev pub table : EnumTable enum
table =
    table_of enum (
    row AtProtocolDown 1 (exactly le32) (value LinkProtocolDownReason.Mask)  -- IFLA_PROTO_DOWN_REASON_MASK
    or row AtProtocolDown 2 (exactly le32) (value LinkProtocolDownReason.Value)  -- IFLA_PROTO_DOWN_REASON_VALUE
    or others (value LinkProtocolDownReason.Other)) refl refl

-- the family
unfoldable pub attributes : Reading (writing_of table)
attributes = attributes_of table

abbrev pub family : Family LinkProtocolDownReason (Unit {0})
family = family_of_table table (λ c. attributes)
