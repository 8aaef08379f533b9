-- The attributes of a message of tables of neighbours (linux/neighbour.h, NDTA_*), by their table.
use Rattle.npr_base.specs.declared.attribute_set.AttributeSet.TheVariants.{NeighbourTable as AtTable, NeighbourTableParameter as AtParameter}
use Rattle.npr_base.specs.Tables.{EnumTable, table_of, row, others, ◌or◌, value, text, listed, exactly, leading, list_of, name, le32, le64, refl, Reading}
use Rattle.npr_base.specs.Tables.{Family, writing_of, attributes_of, family_of_table}
use Rattle.npr_neighbour.specs.NeighbourTableConfig.{table_config}
use Rattle.npr_neighbour.specs.NeighbourTableParameter as OfParameter
use Rattle.npr_neighbour.specs.NeighbourTableStats.{table_stats}
use Rattle.npr_neighbour.specs.contracts.neighbour_table_attribute.NeighbourTableAttribute.{enum}
use Rattle.npr_neighbour.specs.declared.neighbour_table_attribute.NeighbourTableAttribute.{NeighbourTableAttribute}

-- the table, in the order of the variants
abbrev pub table : EnumTable enum
table =
    table_of enum (
    row AtTable 1 name (text NeighbourTableAttribute.Name)  -- NDTA_NAME
    or row AtTable 2 (exactly le32) (value NeighbourTableAttribute.Threshold1)  -- NDTA_THRESH1
    or row AtTable 3 (exactly le32) (value NeighbourTableAttribute.Threshold2)  -- NDTA_THRESH2
    or row AtTable 4 (exactly le32) (value NeighbourTableAttribute.Threshold3)  -- NDTA_THRESH3
    or row AtTable 5 (leading table_config) (value NeighbourTableAttribute.Config)  -- NDTA_CONFIG
    or row AtTable 6 (list_of AtParameter OfParameter.attributes) (listed OfParameter.family.meaning NeighbourTableAttribute.Parms)  -- NDTA_PARMS
    or row AtTable 7 (leading table_stats) (value NeighbourTableAttribute.Stats)  -- NDTA_STATS
    or row AtTable 8 (exactly le64) (value NeighbourTableAttribute.GcInterval)  -- NDTA_GC_INTERVAL
    or others (value NeighbourTableAttribute.Other)) refl refl

-- the family
abbrev pub attributes : Reading (writing_of table)
attributes = attributes_of table

abbrev pub family : Family NeighbourTableAttribute (Unit {0})
family = family_of_table table (λ c. attributes)
