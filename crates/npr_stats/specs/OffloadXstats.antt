-- What a device forwarded by itself (linux/if_link.h, IFLA_OFFLOAD_XSTATS_*), by the table.
use Rattle.npr_base.specs.declared.attribute_set.AttributeSet.TheVariants.{OffloadHwInfo as AtHwInfo, OffloadXstats as AtOffload}
use Rattle.npr_base.specs.Tables.{EnumTable, table_of, row, marked_row, others, ◌or◌, leading, list_of, listed, seen, value, refl, Reading, Family, writing_of}
use Rattle.npr_base.specs.Tables.{attributes_of, family_of_table}
use Rattle.npr_base.specs.Words.{words64}
use Rattle.npr_link_statistics.specs.Grown.{grown, parts}
use Rattle.npr_link_statistics.specs.Names.{stats64}
use Rattle.npr_stats.specs.HwStats64.{hw_stats64}
use Rattle.npr_stats.specs.OffloadHwInfo as OfInfo
use Rattle.npr_stats.specs.contracts.offload_xstats.OffloadXstats.{enum}
use Rattle.npr_stats.specs.declared.offload_xstats.OffloadXstats.{OffloadXstats}

-- the table, in the order of the variants
abbrev pub table : EnumTable enum
table =
    table_of enum (
    row AtOffload 1 (grown words64 stats64) (seen (parts stats64) OffloadXstats.CpuHit)  -- IFLA_OFFLOAD_XSTATS_CPU_HIT
    or marked_row AtOffload 2 (list_of AtHwInfo OfInfo.attributes) (listed OfInfo.family.meaning OffloadXstats.HwStatsInfo)  -- IFLA_OFFLOAD_XSTATS_HW_S_INFO
    or row AtOffload 3 (leading hw_stats64) (value OffloadXstats.L3Stats)  -- IFLA_OFFLOAD_XSTATS_L3_STATS
    or others (value OffloadXstats.Other)) refl refl

-- the family
unfoldable pub attributes : Reading (writing_of table)
attributes = attributes_of table

abbrev pub family : Family OffloadXstats (Unit {0})
family = family_of_table table (λ c. attributes)
