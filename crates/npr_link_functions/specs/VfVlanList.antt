-- One of the VLANs of a virtual function (linux/if_link.h, IFLA_VF_VLAN_INFO), by the table.
use Rattle.npr_base.specs.declared.attribute_set.AttributeSet.TheVariants.{VfVlan as AtVfVlan}
use Rattle.npr_base.specs.Tables.{EnumTable, table_of, row, others, ◌or◌, leading, value}
use Rattle.npr_base.specs.Tables.{refl, Reading, Family, writing_of, attributes_of, family_of_table}
use Rattle.npr_link_functions.specs.VfVlanInfo.{vf_vlan_info}
use Rattle.npr_link_functions.specs.contracts.vf_vlan_list.VfVlan.{enum}
use Rattle.npr_link_functions.specs.declared.vf_vlan_list.VfVlan.{VfVlan}

-- the table, in the order of the variants
abbrev pub table : EnumTable enum
table =
    table_of enum (
    row AtVfVlan 1 (leading vf_vlan_info) (value VfVlan.Info)  -- IFLA_VF_VLAN_INFO
    or others (value VfVlan.Other)) refl refl

-- the family
unfoldable pub attributes : Reading (writing_of table)
attributes = attributes_of table

abbrev pub family : Family VfVlan (Unit {0})
family = family_of_table table (λ c. attributes)
