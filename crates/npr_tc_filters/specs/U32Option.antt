-- The data of a u32 filter (linux/pkt_cls.h, TCA_U32_*), by the table.
use Rattle.npr_base.specs.declared.attribute_set.AttributeSet.TheVariants.{TcFilterU32 as AtTcFilterU32}
use Rattle.npr_base.specs.declared.attribute_set.AttributeSet.TheVariants.{TcActionPolice as AtPolice, TcActions as AtActions}
use Rattle.npr_base.specs.Tables.{EnumTable, table_of, row, others, ◌or◌, exactly, le32, list_of, listed, leading, name, seen, text, value, refl}
use Rattle.npr_base.specs.Tables.{Reading, Family, writing_of, attributes_of, family_of_table}
use Rattle.npr_tc_actions.specs.Action as OfAction
use Rattle.npr_tc_actions.specs.PoliceOption as OfPolice
use Rattle.npr_tc_values.specs.Handle.{handle}
use Rattle.npr_tc_filters.specs.Hits.{hits, u32_hits}
use Rattle.npr_tc_filters.specs.U32Mark.{u32_mark}
use Rattle.npr_tc_filters.specs.U32OptionFlags.{u32_option_flags}
use Rattle.npr_tc_filters.specs.U32Selector.{u32_parts, u32_selector}
use Rattle.npr_tc_filters.specs.contracts.u32_option.TcFilterU32Option.{enum}
use Rattle.npr_tc_filters.specs.declared.u32_option.TcFilterU32Option.{TcFilterU32Option}

-- the table, in the order of the variants
abbrev pub table : EnumTable enum
table =
    table_of enum (
    row AtTcFilterU32 1 (exactly handle) (value TcFilterU32Option.ClassId)  -- TCA_U32_CLASSID
    or row AtTcFilterU32 2 (exactly le32) (value TcFilterU32Option.Hash)  -- TCA_U32_HASH
    or row AtTcFilterU32 3 (exactly le32) (value TcFilterU32Option.Link)  -- TCA_U32_LINK
    or row AtTcFilterU32 4 (exactly le32) (value TcFilterU32Option.Divisor)  -- TCA_U32_DIVISOR
    or row AtTcFilterU32 5 u32_selector (seen u32_parts TcFilterU32Option.Selector)  -- TCA_U32_SEL
    or row AtTcFilterU32 6 (list_of AtPolice OfPolice.attributes) (listed OfPolice.family.meaning TcFilterU32Option.Police)  -- TCA_U32_POLICE
    or row AtTcFilterU32 7 (list_of AtActions OfAction.attributes) (listed OfAction.family.meaning TcFilterU32Option.Action)  -- TCA_U32_ACT
    or row AtTcFilterU32 8 name (text TcFilterU32Option.Indev)  -- TCA_U32_INDEV
    or row AtTcFilterU32 9 hits (seen u32_hits TcFilterU32Option.Pnct)  -- TCA_U32_PCNT
    or row AtTcFilterU32 10 (leading u32_mark) (value TcFilterU32Option.Mark)  -- TCA_U32_MARK
    or row AtTcFilterU32 11 (exactly u32_option_flags) (value TcFilterU32Option.Flags)  -- TCA_U32_FLAGS
    or others (value TcFilterU32Option.Other)) refl refl

-- the family
unfoldable pub attributes : Reading (writing_of table)
attributes = attributes_of table

abbrev pub family : Family TcFilterU32Option (Unit {0})
family = family_of_table table (λ c. attributes)
