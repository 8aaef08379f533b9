-- The data of the filter `basic` (linux/pkt_cls.h, TCA_BASIC_*), by the table.
use Rattle.npr_base.specs.declared.attribute_set.AttributeSet.TheVariants.{TcFilterBasic as AtTcFilterBasic, TcEmatchTree as AtTcEmatchTree}
use Rattle.npr_base.specs.declared.attribute_set.AttributeSet.TheVariants.{TcActionPolice as AtPolice, TcActions as AtActions}
use Rattle.npr_base.specs.Tables.{EnumTable, table_of, row, others, ◌or◌, exactly, list_of, listed, seen, value, refl, Reading, Family, writing_of}
use Rattle.npr_base.specs.Tables.{attributes_of, family_of_table}
use Rattle.npr_tc_actions.specs.Action as OfAction
use Rattle.npr_tc_actions.specs.PoliceOption as OfPolice
use Rattle.npr_tc_values.specs.Handle.{handle}
use Rattle.npr_tc_filters.specs.EmatchTree as OfTree
use Rattle.npr_tc_filters.specs.Hits.{hits, basic_hits}
use Rattle.npr_tc_filters.specs.contracts.basic.TcFilterBasicOption.{enum}
use Rattle.npr_tc_filters.specs.declared.basic.TcFilterBasicOption.{TcFilterBasicOption}

-- the table, in the order of the variants
abbrev pub table : EnumTable enum
table =
    table_of enum (
    row AtTcFilterBasic 1 (exactly handle) (value TcFilterBasicOption.ClassId)  -- TCA_BASIC_CLASSID
    or row AtTcFilterBasic 2 (list_of AtTcEmatchTree OfTree.attributes) (listed OfTree.family.meaning TcFilterBasicOption.Ematches)  -- TCA_BASIC_EMATCHES
    or row AtTcFilterBasic 3 (list_of AtActions OfAction.attributes) (listed OfAction.family.meaning TcFilterBasicOption.Action)  -- TCA_BASIC_ACT
    or row AtTcFilterBasic 4 (list_of AtPolice OfPolice.attributes) (listed OfPolice.family.meaning TcFilterBasicOption.Police)  -- TCA_BASIC_POLICE
    or row AtTcFilterBasic 5 hits (seen basic_hits TcFilterBasicOption.Pcnt)  -- TCA_BASIC_PCNT
    or others (value TcFilterBasicOption.Other)) refl refl

-- the family
unfoldable pub attributes : Reading (writing_of table)
attributes = attributes_of table

abbrev pub family : Family TcFilterBasicOption (Unit {0})
family = family_of_table table (λ c. attributes)
