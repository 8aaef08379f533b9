-- What address families count (linux/socket.h, AF_*), by the table.
use Rattle.npr_base.specs.declared.attribute_set.AttributeSet.TheVariants.{MplsStats as AtMplsStats, StatsAfSpec as AtStatsAfSpec}
use Rattle.npr_base.specs.Tables.{EnumTable, table_of, row, others, ◌or◌, list_of, listed, value, refl, Reading, Family, writing_of}
use Rattle.npr_base.specs.Tables.{attributes_of, family_of_table}
use Rattle.npr_stats.specs.MplsStats as OfMplsStats
use Rattle.npr_stats.specs.contracts.af_spec.StatsAfSpec.{enum}
use Rattle.npr_stats.specs.declared.af_spec.StatsAfSpec.{StatsAfSpec}

-- the table, in the order of the variants
abbrev pub table : EnumTable enum
table =
    table_of enum (
    row AtStatsAfSpec 28 (list_of AtMplsStats OfMplsStats.attributes) (listed OfMplsStats.family.meaning StatsAfSpec.Mpls)  -- AF_MPLS
    or others (value StatsAfSpec.Other)) refl refl

-- the family
unfoldable pub attributes : Reading (writing_of table)
attributes = attributes_of table

abbrev pub family : Family StatsAfSpec (Unit {0})
family = family_of_table table (λ c. attributes)
