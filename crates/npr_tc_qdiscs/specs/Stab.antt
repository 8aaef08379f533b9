-- A table of sizes (linux/pkt_sched.h, TCA_STAB_*), by the table.
use Rattle.npr_base.specs.declared.attribute_set.AttributeSet.TheVariants.{TcStab as AtStab}
use Rattle.npr_base.specs.Tables.{EnumTable, table_of, row, others, ◌or◌, leading, seen, value, refl, Reading, Family, writing_of}
use Rattle.npr_base.specs.Tables.{attributes_of, family_of_table}
use Rattle.npr_tc_qdiscs.specs.SizeSpec.{size_spec}
use Rattle.npr_tc_qdiscs.specs.StabData.{stab_data, stab_data_of}
use Rattle.npr_tc_qdiscs.specs.contracts.stab.TcStab.{enum}
use Rattle.npr_tc_qdiscs.specs.declared.stab.TcStab.{TcStab}

-- the table, in the order of the variants
abbrev pub table : EnumTable enum
table =
    table_of enum (
    row AtStab 1 (leading size_spec) (value TcStab.Base)  -- TCA_STAB_BASE
    or row AtStab 2 stab_data (seen stab_data_of TcStab.Data)  -- TCA_STAB_DATA
    or others (value TcStab.Other)) refl refl

-- the family
unfoldable pub attributes : Reading (writing_of table)
attributes = attributes_of table

abbrev pub family : Family TcStab (Unit {0})
family = family_of_table table (λ c. attributes)
