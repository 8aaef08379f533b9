-- A mapping of priorities (linux/if_link.h, IFLA_VLAN_QOS_*), by the table.
use Rattle.npr_base.specs.declared.attribute_set.AttributeSet.TheVariants.{VlanQosMapping as AtVlanQos}
use Rattle.npr_base.specs.Tables.{EnumTable, table_of, row, others, ◌or◌, exactly, value, refl, Reading, Family, writing_of, attributes_of, family_of_table}
use Rattle.npr_link.specs.Pairs.{both, two_numbers}
use Rattle.npr_link.specs.contracts.vlan_qos.VlanQosMapping.{enum}
use Rattle.npr_link.specs.declared.vlan_qos.VlanQosMapping.{VlanQosMapping}

-- the table, in the order of the variants
abbrev pub table : EnumTable enum
table =
    table_of enum (
    row AtVlanQos 1 (exactly two_numbers) (both VlanQosMapping.Mapping)  -- IFLA_VLAN_QOS_MAPPING
    or others (value VlanQosMapping.Other)) refl refl

-- the family
unfoldable pub attributes : Reading (writing_of table)
attributes = attributes_of table

abbrev pub family : Family VlanQosMapping (Unit {0})
family = family_of_table table (λ c. attributes)
