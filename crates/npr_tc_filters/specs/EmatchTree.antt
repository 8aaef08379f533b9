-- The tests of the filter `basic` (linux/pkt_cls.h, TCA_EMATCH_TREE_*), by the table.
use Rattle.npr_base.specs.declared.attribute_set.AttributeSet.TheVariants.{TcEmatchTree as AtTcEmatchTree, TcEmatches as AtTcEmatches}
use Rattle.npr_base.specs.Tables.{EnumTable, table_of, row, others, ◌or◌, leading, list_of, listed, value, refl, Reading, Family, writing_of}
use Rattle.npr_base.specs.Tables.{attributes_of, family_of_table}
use Rattle.npr_tc_filters.specs.Ematch as OfEmatch
use Rattle.npr_tc_filters.specs.EmatchTreeHeader.{ematch_tree_header}
use Rattle.npr_tc_filters.specs.contracts.ematch_tree.TcEmatchTree.{enum}
use Rattle.npr_tc_filters.specs.declared.ematch_tree.TcEmatchTree.{TcEmatchTree}

-- the table, in the order of the variants
abbrev pub table : EnumTable enum
table =
    table_of enum (
    row AtTcEmatchTree 1 (leading ematch_tree_header) (value TcEmatchTree.Header)  -- TCA_EMATCH_TREE_HDR
    or row AtTcEmatchTree 2 (list_of AtTcEmatches OfEmatch.attributes) (listed OfEmatch.family.meaning TcEmatchTree.List)  -- TCA_EMATCH_TREE_LIST
    or others (value TcEmatchTree.Other)) refl refl

-- the family
unfoldable pub attributes : Reading (writing_of table)
attributes = attributes_of table

abbrev pub family : Family TcEmatchTree (Unit {0})
family = family_of_table table (λ c. attributes)
