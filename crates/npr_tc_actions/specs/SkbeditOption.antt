-- What is said of an action that changes what is kept of a packet (linux/tc_act/tc_skbedit.h, TCA_SKBEDIT_*), by the table.
use Rattle.npr_base.specs.declared.attribute_set.AttributeSet.TheVariants.{TcActionSkbedit as AtTcActionSkbedit}
use Rattle.npr_base.specs.Tables.{EnumTable, table_of, row, others, ◌or◌, exactly, le16, le32, le64, leading, value, refl, Reading, Family}
use Rattle.npr_base.specs.Tables.{writing_of, attributes_of, family_of_table}
use Rattle.npr_tc_values.specs.Handle.{handle}
use Rattle.npr_tc_actions.specs.Generic.{generic}
use Rattle.npr_tc_actions.specs.Tcf.{tcf}
use Rattle.npr_tc_actions.specs.contracts.skbedit_option.TcActionSkbeditOption.{enum}
use Rattle.npr_tc_actions.specs.declared.skbedit_option.TcActionSkbeditOption.{TcActionSkbeditOption}

-- the table, in the order of the variants
abbrev pub table : EnumTable enum
table =
    table_of enum (
    row AtTcActionSkbedit 1 (leading tcf) (value TcActionSkbeditOption.Tm)  -- TCA_SKBEDIT_TM
    or row AtTcActionSkbedit 2 (leading generic) (value TcActionSkbeditOption.Parms)  -- TCA_SKBEDIT_PARMS
    or row AtTcActionSkbedit 3 (exactly handle) (value TcActionSkbeditOption.Priority)  -- TCA_SKBEDIT_PRIORITY
    or row AtTcActionSkbedit 4 (exactly le16) (value TcActionSkbeditOption.QueueMapping)  -- TCA_SKBEDIT_QUEUE_MAPPING
    or row AtTcActionSkbedit 5 (exactly le32) (value TcActionSkbeditOption.Mark)  -- TCA_SKBEDIT_MARK
    or row AtTcActionSkbedit 7 (exactly le16) (value TcActionSkbeditOption.Ptype)  -- TCA_SKBEDIT_PTYPE
    or row AtTcActionSkbedit 8 (exactly le32) (value TcActionSkbeditOption.Mask)  -- TCA_SKBEDIT_MASK
    or row AtTcActionSkbedit 9 (exactly le64) (value TcActionSkbeditOption.Flags)  -- TCA_SKBEDIT_FLAGS
    or row AtTcActionSkbedit 10 (exactly le16) (value TcActionSkbeditOption.QueueMappingMax)  -- TCA_SKBEDIT_QUEUE_MAPPING_MAX
    or others (value TcActionSkbeditOption.Other)) refl refl

-- the family
unfoldable pub attributes : Reading (writing_of table)
attributes = attributes_of table

abbrev pub family : Family TcActionSkbeditOption (Unit {0})
family = family_of_table table (λ c. attributes)
