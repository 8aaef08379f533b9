-- One of the ports of a link (linux/if_link.h, IFLA_VF_PORT), by the table.
use Rattle.npr_base.specs.declared.attribute_set.AttributeSet.TheVariants.{LinkVfPort as AtLinkVfPort, VfPort as AtVfPort}
use Rattle.npr_base.specs.Tables.{EnumTable, table_of, row, others, ◌or◌, list_of, listed, value}
use Rattle.npr_base.specs.Tables.{refl, Reading, Family, writing_of, attributes_of, family_of_table}
use Rattle.npr_link_functions.specs.VfPort as OfVfPort
use Rattle.npr_link_functions.specs.contracts.link_vf_port.LinkVfPort.{enum}
use Rattle.npr_link_functions.specs.declared.link_vf_port.LinkVfPort.{LinkVfPort}

-- the table, in the order of the variants
abbrev pub table : EnumTable enum
table =
    table_of enum (
    row AtLinkVfPort 1 (list_of AtVfPort OfVfPort.attributes) (listed OfVfPort.family.meaning LinkVfPort.Port)  -- IFLA_VF_PORT
    or others (value LinkVfPort.Other)) refl refl

-- the family
unfoldable pub attributes : Reading (writing_of table)
attributes = attributes_of table

abbrev pub family : Family LinkVfPort (Unit {0})
family = family_of_table table (λ c. attributes)
