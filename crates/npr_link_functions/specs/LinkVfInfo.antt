-- One of the virtual functions of a link (linux/if_link.h, IFLA_VF_INFO), by the table.
use Rattle.npr_base.specs.declared.attribute_set.AttributeSet.TheVariants.{LinkVfInfo as AtLinkVfInfo, VfInfo as AtVfInfo}
use Rattle.npr_base.specs.Tables.{EnumTable, table_of, row, others, ◌or◌, list_of, listed, value}
use Rattle.npr_base.specs.Tables.{refl, Reading, Family, writing_of, attributes_of, family_of_table}
use Rattle.npr_link_functions.specs.VfInfo as OfVfInfo
use Rattle.npr_link_functions.specs.contracts.link_vf_info.LinkVfInfo.{enum}
use Rattle.npr_link_functions.specs.declared.link_vf_info.LinkVfInfo.{LinkVfInfo}

-- the table, in the order of the variants
abbrev pub table : EnumTable enum
table =
    table_of enum (
    row AtLinkVfInfo 1 (list_of AtVfInfo OfVfInfo.attributes) (listed OfVfInfo.family.meaning LinkVfInfo.Info)  -- IFLA_VF_INFO
    or others (value LinkVfInfo.Other)) refl refl

-- the family
unfoldable pub attributes : Reading (writing_of table)
attributes = attributes_of table

abbrev pub family : Family LinkVfInfo (Unit {0})
family = family_of_table table (λ c. attributes)
