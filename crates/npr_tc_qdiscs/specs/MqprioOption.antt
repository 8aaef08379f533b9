-- The attributes of `mqprio` (linux/pkt_sched.h, TCA_MQPRIO_*), by the table.
use Rattle.npr_base.specs.declared.attribute_set.AttributeSet.TheVariants.{TcQdiscMqprio as AtTcQdiscMqprio, TcMqprioEntry as AtEntry}
use Rattle.npr_base.specs.Tables.{EnumTable, table_of, others, ◌or◌, exactly, items, le16, list_of, listed, marked_row, raw, row, value}
use Rattle.npr_base.specs.Tables.{refl, Reading, Family, writing_of, attributes_of, family_of_table}
use Rattle.npr_tc_qdiscs.specs.MqprioEntry as OfEntry
use Rattle.npr_tc_qdiscs.specs.contracts.mqprio_option.TcQdiscMqprioOption.{enum}
use Rattle.npr_tc_qdiscs.specs.declared.mqprio_option.TcQdiscMqprioOption.{TcQdiscMqprioOption}

-- the table, in the order of the variants
abbrev pub table : EnumTable enum
table =
    table_of enum (
    row AtTcQdiscMqprio 1 (exactly le16) (value TcQdiscMqprioOption.Mode)  -- TCA_MQPRIO_MODE
    or row AtTcQdiscMqprio 2 (exactly le16) (value TcQdiscMqprioOption.Shaper)  -- TCA_MQPRIO_SHAPER
    or row AtTcQdiscMqprio 3 raw (items TcQdiscMqprioOption.MinRate64)  -- TCA_MQPRIO_MIN_RATE64
    or row AtTcQdiscMqprio 4 raw (items TcQdiscMqprioOption.MaxRate64)  -- TCA_MQPRIO_MAX_RATE64
    or marked_row AtTcQdiscMqprio 5 (list_of AtEntry OfEntry.attributes) (listed OfEntry.family.meaning TcQdiscMqprioOption.TcEntry)  -- TCA_MQPRIO_TC_ENTRY
    or others (value TcQdiscMqprioOption.Other)) refl refl

-- the family
unfoldable pub attributes : Reading (writing_of table)
attributes = attributes_of table

abbrev pub family : Family TcQdiscMqprioOption (Unit {0})
family = family_of_table table (λ c. attributes)
