-- What is known of counting in a device, by what is counted (linux/if_link.h, IFLA_OFFLOAD_XSTATS_*), by the table.
use Rattle.npr_base.specs.declared.attribute_set.AttributeSet.TheVariants.{OffloadHwInfo as AtHwInfo, OffloadHwState as AtHwState}
use Rattle.npr_base.specs.Tables.{EnumTable, table_of, marked_row, others, ◌or◌, list_of, listed, value, refl, Reading, Family, writing_of}
use Rattle.npr_base.specs.Tables.{attributes_of, family_of_table}
use Rattle.npr_stats.specs.OffloadHwState as OfHwState
use Rattle.npr_stats.specs.contracts.offload_hw_info.OffloadHwInfo.{enum}
use Rattle.npr_stats.specs.declared.offload_hw_info.OffloadHwInfo.{OffloadHwInfo}

-- the table, in the order of the variants
abbrev pub table : EnumTable enum
table =
    table_of enum (
    marked_row AtHwInfo 3 (list_of AtHwState OfHwState.attributes) (listed OfHwState.family.meaning OffloadHwInfo.L3Stats)  -- IFLA_OFFLOAD_XSTATS_L3_STATS
    or others (value OffloadHwInfo.Other)) refl refl

-- the family
unfoldable pub attributes : Reading (writing_of table)
attributes = attributes_of table

abbrev pub family : Family OffloadHwInfo (Unit {0})
family = family_of_table table (λ c. attributes)
