-- What one class of traffic of `mqprio` has (linux/pkt_sched.h, TCA_MQPRIO_TC_ENTRY_*), by the table.
use Rattle.npr_base.specs.declared.attribute_set.AttributeSet.TheVariants.{TcMqprioEntry as AtTcMqprioEntry}
use Rattle.npr_base.specs.Tables.{EnumTable, table_of, others, ◌or◌, exactly, le32, row, value}
use Rattle.npr_base.specs.Tables.{refl, Reading, Family, writing_of, attributes_of, family_of_table}
use Rattle.npr_tc_qdiscs.specs.contracts.mqprio_entry.TcMqprioEntry.{enum}
use Rattle.npr_tc_qdiscs.specs.declared.mqprio_entry.TcMqprioEntry.{TcMqprioEntry}

-- the table, in the order of the variants
abbrev pub table : EnumTable enum
table =
    table_of enum (
    row AtTcMqprioEntry 1 (exactly le32) (value TcMqprioEntry.Index)  -- TCA_MQPRIO_TC_ENTRY_INDEX
    or row AtTcMqprioEntry 2 (exactly le32) (value TcMqprioEntry.Fp)  -- TCA_MQPRIO_TC_ENTRY_FP
    or others (value TcMqprioEntry.Other)) refl refl

-- the family
unfoldable pub attributes : Reading (writing_of table)
attributes = attributes_of table

abbrev pub family : Family TcMqprioEntry (Unit {0})
family = family_of_table table (λ c. attributes)
