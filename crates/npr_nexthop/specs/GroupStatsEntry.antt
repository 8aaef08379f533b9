-- What went by one member of a group (linux/nexthop.h, NHA_GROUP_STATS_ENTRY_*), by the table.
use Rattle.npr_base.specs.declared.attribute_set.AttributeSet.TheVariants.{NextHopGroupStatsEntry as AtGroupStatsEntry}
use Rattle.npr_base.specs.Tables.{EnumTable, table_of, row, others, ◌or◌, exactly, le32, uint, value, refl, Reading, Family, writing_of}
use Rattle.npr_base.specs.Tables.{attributes_of, family_of_table}
use Rattle.npr_nexthop.specs.contracts.group_stats_entry.NextHopGroupStatsEntry.{enum}
use Rattle.npr_nexthop.specs.declared.group_stats_entry.NextHopGroupStatsEntry.{NextHopGroupStatsEntry}

-- the table, in the order of the variants
abbrev pub table : EnumTable enum
table =
    table_of enum (
    row AtGroupStatsEntry 1 (exactly le32) (value NextHopGroupStatsEntry.Id)  -- NHA_GROUP_STATS_ENTRY_ID
    or row AtGroupStatsEntry 2 uint (value NextHopGroupStatsEntry.Packets)  -- NHA_GROUP_STATS_ENTRY_PACKETS
    or row AtGroupStatsEntry 3 uint (value NextHopGroupStatsEntry.PacketsHw)  -- NHA_GROUP_STATS_ENTRY_PACKETS_HW
    or others (value NextHopGroupStatsEntry.Other)) refl refl

-- the family
unfoldable pub attributes : Reading (writing_of table)
attributes = attributes_of table

abbrev pub family : Family NextHopGroupStatsEntry (Unit {0})
family = family_of_table table (λ c. attributes)
