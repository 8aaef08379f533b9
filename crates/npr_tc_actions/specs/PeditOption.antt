-- What is said of an action that edits packets (linux/tc_act/tc_pedit.h, TCA_PEDIT_*), by the table.
use Rattle.npr_base.specs.declared.attribute_set.AttributeSet.TheVariants.{TcActionPedit as AtTcActionPedit, TcPeditKeysEx as AtTcPeditKeysEx}
use Rattle.npr_base.specs.Tables.{EnumTable, table_of, row, others, ◌or◌, leading, list_of, listed, seen, value, refl, Reading, Family, writing_of}
use Rattle.npr_base.specs.Tables.{attributes_of, family_of_table}
use Rattle.npr_tc_actions.specs.PeditKeysEx as OfKeysEx
use Rattle.npr_tc_actions.specs.PeditSelector.{pedit_parts, pedit_selector}
use Rattle.npr_tc_actions.specs.Tcf.{tcf}
use Rattle.npr_tc_actions.specs.contracts.pedit_option.TcActionPeditOption.{enum}
use Rattle.npr_tc_actions.specs.declared.pedit_option.TcActionPeditOption.{TcActionPeditOption}

-- the table, in the order of the variants
abbrev pub table : EnumTable enum
table =
    table_of enum (
    row AtTcActionPedit 1 (leading tcf) (value TcActionPeditOption.Tm)  -- TCA_PEDIT_TM
    or row AtTcActionPedit 2 pedit_selector (seen pedit_parts TcActionPeditOption.Parms)  -- TCA_PEDIT_PARMS
    or row AtTcActionPedit 4 pedit_selector (seen pedit_parts TcActionPeditOption.ParmsEx)  -- TCA_PEDIT_PARMS_EX
    or row AtTcActionPedit 5 (list_of AtTcPeditKeysEx OfKeysEx.attributes) (listed OfKeysEx.family.meaning TcActionPeditOption.KeysEx)  -- TCA_PEDIT_KEYS_EX
    or others (value TcActionPeditOption.Other)) refl refl

-- the family
unfoldable pub attributes : Reading (writing_of table)
attributes = attributes_of table

abbrev pub family : Family TcActionPeditOption (Unit {0})
family = family_of_table table (λ c. attributes)
