-- What a resilient group is made with (linux/nexthop.h, NHA_RES_GROUP_*), by the table.
use Rattle.npr_base.specs.declared.attribute_set.AttributeSet.TheVariants.{NextHopResGroup as AtResGroup}
use Rattle.npr_base.specs.Tables.{EnumTable, table_of, row, others, ◌or◌, exactly, le16, le32, le64, value, refl, Reading, Family, writing_of}
use Rattle.npr_base.specs.Tables.{attributes_of, family_of_table}
use Rattle.npr_nexthop.specs.contracts.res_group.NextHopResGroup.{enum}
use Rattle.npr_nexthop.specs.declared.res_group.NextHopResGroup.{NextHopResGroup}

-- the table, in the order of the variants
abbrev pub table : EnumTable enum
table =
    table_of enum (
    row AtResGroup 1 (exactly le16) (value NextHopResGroup.Buckets)  -- NHA_RES_GROUP_BUCKETS
    or row AtResGroup 2 (exactly le32) (value NextHopResGroup.IdleTimer)  -- NHA_RES_GROUP_IDLE_TIMER
    or row AtResGroup 3 (exactly le32) (value NextHopResGroup.UnbalancedTimer)  -- NHA_RES_GROUP_UNBALANCED_TIMER
    or row AtResGroup 4 (exactly le64) (value NextHopResGroup.UnbalancedTime)  -- NHA_RES_GROUP_UNBALANCED_TIME
    or others (value NextHopResGroup.Other)) refl refl

-- the family
unfoldable pub attributes : Reading (writing_of table)
attributes = attributes_of table

abbrev pub family : Family NextHopResGroup (Unit {0})
family = family_of_table table (λ c. attributes)
