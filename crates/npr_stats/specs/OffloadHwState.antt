-- Whether a device counts (linux/if_link.h, IFLA_OFFLOAD_XSTATS_HW_S_INFO_*), by the table.
use Rattle.npr_base.specs.declared.attribute_set.AttributeSet.TheVariants.{OffloadHwState as AtHwState}
use Rattle.npr_base.specs.Tables.{EnumTable, table_of, row, others, ◌or◌, exactly, byte, value, refl, Reading, Family, writing_of}
use Rattle.npr_base.specs.Tables.{attributes_of, family_of_table}
use Rattle.npr_stats.specs.contracts.offload_hw_state.OffloadHwState.{enum}
use Rattle.npr_stats.specs.declared.offload_hw_state.OffloadHwState.{OffloadHwState}

-- the table, in the order of the variants
abbrev pub table : EnumTable enum
table =
    table_of enum (
    row AtHwState 1 (exactly byte) (value OffloadHwState.Request)  -- IFLA_OFFLOAD_XSTATS_HW_S_INFO_REQUEST
    or row AtHwState 2 (exactly byte) (value OffloadHwState.Used)  -- IFLA_OFFLOAD_XSTATS_HW_S_INFO_USED
    or others (value OffloadHwState.Other)) refl refl

-- the family
unfoldable pub attributes : Reading (writing_of table)
attributes = attributes_of table

abbrev pub family : Family OffloadHwState (Unit {0})
family = family_of_table table (λ c. attributes)
