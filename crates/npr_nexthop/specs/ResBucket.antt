-- A bucket of a resilient group (linux/nexthop.h, NHA_RES_BUCKET_*), by the table.
use Rattle.npr_base.specs.declared.attribute_set.AttributeSet.TheVariants.{NextHopResBucket as AtResBucket}
use Rattle.npr_base.specs.Tables.{EnumTable, table_of, row, others, ◌or◌, exactly, le16, le32, le64, value, refl, Reading, Family, writing_of}
use Rattle.npr_base.specs.Tables.{attributes_of, family_of_table}
use Rattle.npr_nexthop.specs.contracts.res_bucket.NextHopResBucket.{enum}
use Rattle.npr_nexthop.specs.declared.res_bucket.NextHopResBucket.{NextHopResBucket}

-- the table, in the order of the variants
abbrev pub table : EnumTable enum
table =
    table_of enum (
    row AtResBucket 1 (exactly le16) (value NextHopResBucket.Index)  -- NHA_RES_BUCKET_INDEX
    or row AtResBucket 2 (exactly le64) (value NextHopResBucket.IdleTime)  -- NHA_RES_BUCKET_IDLE_TIME
    or row AtResBucket 3 (exactly le32) (value NextHopResBucket.NhId)  -- NHA_RES_BUCKET_NH_ID
    or others (value NextHopResBucket.Other)) refl refl

-- the family
unfoldable pub attributes : Reading (writing_of table)
attributes = attributes_of table

abbrev pub family : Family NextHopResBucket (Unit {0})
family = family_of_table table (λ c. attributes)
