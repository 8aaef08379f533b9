-- What a forwarding entry is besides (linux/neighbour.h, NFEA_*), by the table.
use Rattle.npr_base.specs.declared.attribute_set.AttributeSet.TheVariants.{NeighbourFdb as AtNeighbourFdb}
use Rattle.npr_base.specs.Tables.{EnumTable, table_of, row, others, ◌or◌, dropped, exactly, nothing, value}
use Rattle.npr_base.specs.Tables.{refl, Reading, Family, writing_of, attributes_of, family_of_table}
use Rattle.npr_neighbour.specs.Flags.{fdb_notify}
use Rattle.npr_neighbour.specs.contracts.fdb.NeighbourFdbAttribute.{enum}
use Rattle.npr_neighbour.specs.declared.fdb.NeighbourFdbAttribute.{NeighbourFdbAttribute}

-- the table, in the order of the variants
abbrev pub table : EnumTable enum
table =
    table_of enum (
    row AtNeighbourFdb 1 (exactly fdb_notify) (value NeighbourFdbAttribute.ActivityNotify)  -- NFEA_ACTIVITY_NOTIFY
    or row AtNeighbourFdb 2 dropped (nothing NeighbourFdbAttribute.DontRefresh)  -- NFEA_DONT_REFRESH
    or others (value NeighbourFdbAttribute.Other)) refl refl

-- the family
unfoldable pub attributes : Reading (writing_of table)
attributes = attributes_of table

abbrev pub family : Family NeighbourFdbAttribute (Unit {0})
family = family_of_table table (λ c. attributes)
