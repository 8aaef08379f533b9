-- What is said of the keys of an action that edits packets (linux/tc_act/tc_pedit.h, TCA_PEDIT_KEY_EX), by the table.
use Rattle.npr_base.specs.declared.attribute_set.AttributeSet.TheVariants.{TcPeditKeyEx as AtTcPeditKeyEx, TcPeditKeysEx as AtTcPeditKeysEx}
use Rattle.npr_base.specs.Tables.{EnumTable, table_of, row, others, ◌or◌, list_of, listed, value, refl, Reading, Family, writing_of, attributes_of}
use Rattle.npr_base.specs.Tables.{family_of_table}
use Rattle.npr_tc_actions.specs.PeditKeyEx as OfKeyEx
use Rattle.npr_tc_actions.specs.contracts.pedit_keys_ex.TcPeditKeysEx.{enum}
use Rattle.npr_tc_actions.specs.declared.pedit_keys_ex.TcPeditKeysEx.{TcPeditKeysEx}

-- the table, in the order of the variants
abbrev pub table : EnumTable enum
table =
    table_of enum (
    row AtTcPeditKeysEx 6 (list_of AtTcPeditKeyEx OfKeyEx.attributes) (listed OfKeyEx.family.meaning TcPeditKeysEx.KeyEx)  -- TCA_PEDIT_KEY_EX
    or others (value TcPeditKeysEx.Other)) refl refl

-- the family
unfoldable pub attributes : Reading (writing_of table)
attributes = attributes_of table

abbrev pub family : Family TcPeditKeysEx (Unit {0})
family = family_of_table table (λ c. attributes)
