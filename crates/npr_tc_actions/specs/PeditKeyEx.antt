-- What is said of a key of an action that edits packets (linux/tc_act/tc_pedit.h, TCA_PEDIT_KEY_EX_*), by the table.
use Rattle.npr_base.specs.declared.attribute_set.AttributeSet.TheVariants.{TcPeditKeyEx as AtTcPeditKeyEx}
use Rattle.npr_base.specs.Tables.{EnumTable, table_of, row, others, ◌or◌, exactly, value, refl, Reading, Family, writing_of, attributes_of}
use Rattle.npr_base.specs.Tables.{family_of_table}
use Rattle.npr_tc_actions.specs.PeditCommand.{pedit_command}
use Rattle.npr_tc_actions.specs.PeditHeaderType.{pedit_header_type}
use Rattle.npr_tc_actions.specs.contracts.pedit_key_ex.TcPeditKeyEx.{enum}
use Rattle.npr_tc_actions.specs.declared.pedit_key_ex.TcPeditKeyEx.{TcPeditKeyEx}

-- the table, in the order of the variants
abbrev pub table : EnumTable enum
table =
    table_of enum (
    row AtTcPeditKeyEx 1 (exactly pedit_header_type) (value TcPeditKeyEx.Htype)  -- TCA_PEDIT_KEY_EX_HTYPE
    or row AtTcPeditKeyEx 2 (exactly pedit_command) (value TcPeditKeyEx.Cmd)  -- TCA_PEDIT_KEY_EX_CMD
    or others (value TcPeditKeyEx.Other)) refl refl

-- the family
unfoldable pub attributes : Reading (writing_of table)
attributes = attributes_of table

abbrev pub family : Family TcPeditKeyEx (Unit {0})
family = family_of_table table (λ c. attributes)
