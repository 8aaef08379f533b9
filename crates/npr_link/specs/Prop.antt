-- A property of a link (linux/if_link.h, IFLA_*), by the table.
use Rattle.npr_base.specs.declared.attribute_set.AttributeSet.TheVariants.{Prop as AtProp}
use Rattle.npr_base.specs.Tables.{EnumTable, table_of, row, others, ◌or◌, name, text, value, refl, Reading, Family, writing_of, attributes_of, family_of_table}
use Rattle.npr_link.specs.contracts.prop.Prop.{enum}
use Rattle.npr_link.specs.declared.prop.Prop.{Prop}

-- the table, in the order of the variants
abbrev pub table : EnumTable enum
table =
    table_of enum (
    row AtProp 53 name (text Prop.AltIfName)  -- IFLA_ALT_IFNAME
    or others (value Prop.Other)) refl refl

-- the family
unfoldable pub attributes : Reading (writing_of table)
attributes = attributes_of table

abbrev pub family : Family Prop (Unit {0})
family = family_of_table table (λ c. attributes)
