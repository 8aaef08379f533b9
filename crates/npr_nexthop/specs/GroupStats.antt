-- What went by the members of a group (linux/nexthop.h, NHA_GROUP_STATS_*), by the table.
use Rattle.npr_base.specs.declared.attribute_set.AttributeSet.TheVariants.{NextHopGroupStats as AtGroupStats, NextHopGroupStatsEntry as AtEntry}
use Rattle.npr_base.specs.Tables.{EnumTable, table_of, marked_row, others, ◌or◌, list_of, listed, value, refl, Reading, Family, writing_of}
use Rattle.npr_base.specs.Tables.{attributes_of, family_of_table}
use Rattle.npr_nexthop.specs.GroupStatsEntry as OfEntry
use Rattle.npr_nexthop.specs.contracts.group_stats.NextHopGroupStats.{enum}
use Rattle.npr_nexthop.specs.declared.group_stats.NextHopGroupStats.{NextHopGroupStats}

-- the table, in the order of the variants
abbrev pub table : EnumTable enum
table =
    table_of enum (
    marked_row AtGroupStats 1 (list_of AtEntry OfEntry.attributes) (listed OfEntry.family.meaning NextHopGroupStats.Entry)  -- NHA_GROUP_STATS_ENTRY
    or others (value NextHopGroupStats.Other)) refl refl

-- the family
unfoldable pub attributes : Reading (writing_of table)
attributes = attributes_of table

abbrev pub family : Family NextHopGroupStats (Unit {0})
family = family_of_table table (λ c. attributes)
