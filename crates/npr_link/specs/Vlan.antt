-- The data of a VLAN (linux/if_link.h, IFLA_VLAN_*), by the table.
use Rattle.npr_base.specs.declared.attribute_set.AttributeSet.TheVariants.{InfoVlan as AtVlan, VlanQosMapping as AtVlanQos}
use Rattle.npr_base.specs.Tables.{EnumTable, table_of, row, others, ◌or◌, exactly, le16, list_of, listed, value, refl, Reading, Family, writing_of}
use Rattle.npr_base.specs.Tables.{attributes_of, family_of_table}
use Rattle.npr_link.specs.Pairs.{two_flags}
use Rattle.npr_link_bridge.specs.VlanProtocol.{vlan_protocol}
use Rattle.npr_link.specs.VlanQos as OfVlanQos
use Rattle.npr_link.specs.contracts.vlan.InfoVlan.{enum}
use Rattle.npr_link.specs.declared.vlan.InfoVlan.{InfoVlan}

-- the table, in the order of the variants
abbrev pub table : EnumTable enum
table =
    table_of enum (
    row AtVlan 1 (exactly le16) (value InfoVlan.Id)  -- IFLA_VLAN_ID
    or row AtVlan 2 (exactly two_flags) (value InfoVlan.Flags)  -- IFLA_VLAN_FLAGS
    or row AtVlan 3 (list_of AtVlanQos OfVlanQos.attributes) (listed OfVlanQos.family.meaning InfoVlan.EgressQos)  -- IFLA_VLAN_EGRESS_QOS
    or row AtVlan 4 (list_of AtVlanQos OfVlanQos.attributes) (listed OfVlanQos.family.meaning InfoVlan.IngressQos)  -- IFLA_VLAN_INGRESS_QOS
    or row AtVlan 5 (exactly vlan_protocol) (value InfoVlan.Protocol)  -- IFLA_VLAN_PROTOCOL
    or others (value InfoVlan.Other)) refl refl

-- the family
unfoldable pub attributes : Reading (writing_of table)
attributes = attributes_of table

abbrev pub family : Family InfoVlan (Unit {0})
family = family_of_table table (λ c. attributes)
