-- The data of a routing domain, or of a port of one (linux/if_link.h, IFLA_VRF_*), by the table.
use Rattle.npr_base.specs.declared.attribute_set.AttributeSet.TheVariants.{InfoVrf as AtVrf}
use Rattle.npr_base.specs.Tables.{EnumTable, table_of, row, others, ◌or◌, exactly, le32, value, refl, Reading, Family, writing_of, attributes_of}
use Rattle.npr_base.specs.Tables.{family_of_table}
use Rattle.npr_link.specs.contracts.vrf.InfoVrf.{enum}
use Rattle.npr_link.specs.declared.vrf.InfoVrf.{InfoVrf}

-- the table, in the order of the variants
abbrev pub table : EnumTable enum
table =
    table_of enum (
    row AtVrf 1 (exactly le32) (value InfoVrf.TableId)  -- IFLA_VRF_TABLE
    or others (value InfoVrf.Other)) refl refl

-- the family
unfoldable pub attributes : Reading (writing_of table)
attributes = attributes_of table

abbrev pub family : Family InfoVrf (Unit {0})
family = family_of_table table (λ c. attributes)
