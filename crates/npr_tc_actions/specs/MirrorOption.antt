-- What is said of an action that copies packets, or sends them on (linux/tc_act/tc_mirred.h, TCA_MIRRED_*), by the table.
use Rattle.npr_base.specs.declared.attribute_set.AttributeSet.TheVariants.{TcActionMirror as AtTcActionMirror}
use Rattle.npr_base.specs.Tables.{EnumTable, table_of, row, others, ◌or◌, exactly, leading, le32, value, refl, Reading, Family, writing_of}
use Rattle.npr_base.specs.Tables.{attributes_of, family_of_table}
use Rattle.npr_tc_actions.specs.Mirror.{mirror}
use Rattle.npr_tc_actions.specs.Tcf.{tcf}
use Rattle.npr_tc_actions.specs.contracts.mirror_option.TcActionMirrorOption.{enum}
use Rattle.npr_tc_actions.specs.declared.mirror_option.TcActionMirrorOption.{TcActionMirrorOption}

-- the table, in the order of the variants
abbrev pub table : EnumTable enum
table =
    table_of enum (
    row AtTcActionMirror 1 (leading tcf) (value TcActionMirrorOption.Tm)  -- TCA_MIRRED_TM
    or row AtTcActionMirror 2 (leading mirror) (value TcActionMirrorOption.Parms)  -- TCA_MIRRED_PARMS
    or row AtTcActionMirror 4 (exactly le32) (value TcActionMirrorOption.BlockId)  -- TCA_MIRRED_BLOCKID
    or others (value TcActionMirrorOption.Other)) refl refl

-- the family
unfoldable pub attributes : Reading (writing_of table)
attributes = attributes_of table

abbrev pub family : Family TcActionMirrorOption (Unit {0})
family = family_of_table table (λ c. attributes)
