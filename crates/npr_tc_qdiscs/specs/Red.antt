-- The data of `red` (linux/pkt_sched.h, TCA_RED_*), by the table.
use Rattle.npr_base.specs.declared.attribute_set.AttributeSet.TheVariants.{TcQdiscRed as AtTcQdiscRed}
use Rattle.npr_base.specs.Tables.{EnumTable, table_of, row, others, ◌or◌, exactly, items, le32, leading, raw, value, refl, Reading, Family}
use Rattle.npr_base.specs.Tables.{writing_of, attributes_of, family_of_table}
use Rattle.npr_tc_values.specs.Bitfield.{bitfield}
use Rattle.npr_tc_qdiscs.specs.RedQopt.{red_qopt}
use Rattle.npr_tc_qdiscs.specs.contracts.red.TcQdiscRedOption.{enum}
use Rattle.npr_tc_qdiscs.specs.declared.red.TcQdiscRedOption.{TcQdiscRedOption}

-- the table, in the order of the variants
abbrev pub table : EnumTable enum
table =
    table_of enum (
    row AtTcQdiscRed 1 (leading red_qopt) (value TcQdiscRedOption.Parms)  -- TCA_RED_PARMS
    or row AtTcQdiscRed 2 raw (items TcQdiscRedOption.Stab)  -- TCA_RED_STAB
    or row AtTcQdiscRed 3 (exactly le32) (value TcQdiscRedOption.MaxP)  -- TCA_RED_MAX_P
    or row AtTcQdiscRed 4 (exactly bitfield) (value TcQdiscRedOption.Flags)  -- TCA_RED_FLAGS
    or row AtTcQdiscRed 5 (exactly le32) (value TcQdiscRedOption.EarlyDropBlock)  -- TCA_RED_EARLY_DROP_BLOCK
    or row AtTcQdiscRed 6 (exactly le32) (value TcQdiscRedOption.MarkBlock)  -- TCA_RED_MARK_BLOCK
    or others (value TcQdiscRedOption.Other)) refl refl

-- the family
unfoldable pub attributes : Reading (writing_of table)
attributes = attributes_of table

abbrev pub family : Family TcQdiscRedOption (Unit {0})
family = family_of_table table (λ c. attributes)
