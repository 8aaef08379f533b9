-- The data of the filter `fw` (linux/pkt_cls.h, TCA_FW_*), by the table.
use Rattle.npr_base.specs.declared.attribute_set.AttributeSet.TheVariants.{TcFilterFw as AtTcFilterFw}
use Rattle.npr_base.specs.Tables.{EnumTable, table_of, row, others, ◌or◌, exactly, le32, list_of, listed, name, text, value, refl, Reading, Family}
use Rattle.npr_base.specs.Tables.{writing_of, attributes_of, family_of_table}
use Rattle.npr_base.specs.declared.attribute_set.AttributeSet.TheVariants.{TcActionPolice as AtPolice, TcActions as AtActions}
use Rattle.npr_tc_actions.specs.Action as OfAction
use Rattle.npr_tc_actions.specs.PoliceOption as OfPolice
use Rattle.npr_tc_values.specs.Handle.{handle}
use Rattle.npr_tc_filters.specs.contracts.fw.TcFilterFwOption.{enum}
use Rattle.npr_tc_filters.specs.declared.fw.TcFilterFwOption.{TcFilterFwOption}

-- the table, in the order of the variants
abbrev pub table : EnumTable enum
table =
    table_of enum (
    row AtTcFilterFw 1 (exactly handle) (value TcFilterFwOption.ClassId)  -- TCA_FW_CLASSID
    or row AtTcFilterFw 2 (list_of AtPolice OfPolice.attributes) (listed OfPolice.family.meaning TcFilterFwOption.Police)  -- TCA_FW_POLICE
    or row AtTcFilterFw 3 name (text TcFilterFwOption.Indev)  -- TCA_FW_INDEV
    or row AtTcFilterFw 4 (list_of AtActions OfAction.attributes) (listed OfAction.family.meaning TcFilterFwOption.Action)  -- TCA_FW_ACT
    or row AtTcFilterFw 5 (exactly le32) (value TcFilterFwOption.Mask)  -- TCA_FW_MASK
    or others (value TcFilterFwOption.Other)) refl refl

-- the family
unfoldable pub attributes : Reading (writing_of table)
attributes = attributes_of table

abbrev pub family : Family TcFilterFwOption (Unit {0})
family = family_of_table table (λ c. attributes)
