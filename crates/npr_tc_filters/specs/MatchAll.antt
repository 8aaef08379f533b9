-- The data of a filter that matches each packet (linux/pkt_cls.h, TCA_MATCHALL_*), by the table.
use Rattle.npr_base.specs.declared.attribute_set.AttributeSet.TheVariants.{TcFilterMatchAll as AtTcFilterMatchAll}
use Rattle.npr_base.specs.declared.attribute_set.AttributeSet.TheVariants.{TcActions as AtActions}
use Rattle.npr_base.specs.Tables.{EnumTable, table_of, row, others, ◌or◌, exactly, le32, list_of, listed, seen, value, refl, Reading, Family, writing_of}
use Rattle.npr_base.specs.Tables.{attributes_of, family_of_table}
use Rattle.npr_tc_actions.specs.Action as OfAction
use Rattle.npr_tc_values.specs.Handle.{handle}
use Rattle.npr_tc_filters.specs.Hits.{hits, match_all_hits}
use Rattle.npr_tc_filters.specs.contracts.match_all.TcFilterMatchAllOption.{enum}
use Rattle.npr_tc_filters.specs.declared.match_all.TcFilterMatchAllOption.{TcFilterMatchAllOption}

-- the table, in the order of the variants
abbrev pub table : EnumTable enum
table =
    table_of enum (
    row AtTcFilterMatchAll 1 (exactly handle) (value TcFilterMatchAllOption.ClassId)  -- TCA_MATCHALL_CLASSID
    or row AtTcFilterMatchAll 2 (list_of AtActions OfAction.attributes) (listed OfAction.family.meaning TcFilterMatchAllOption.Action)  -- TCA_MATCHALL_ACT
    or row AtTcFilterMatchAll 3 (exactly le32) (value TcFilterMatchAllOption.Flags)  -- TCA_MATCHALL_FLAGS
    or row AtTcFilterMatchAll 4 hits (seen match_all_hits TcFilterMatchAllOption.Pnct)  -- TCA_MATCHALL_PCNT
    or others (value TcFilterMatchAllOption.Other)) refl refl

-- the family
unfoldable pub attributes : Reading (writing_of table)
attributes = attributes_of table

abbrev pub family : Family TcFilterMatchAllOption (Unit {0})
family = family_of_table table (λ c. attributes)
