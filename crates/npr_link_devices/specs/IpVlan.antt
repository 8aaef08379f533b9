-- The data of an IPVLAN (linux/if_link.h, IFLA_IPVLAN_*), by the table.
use Rattle.npr_base.specs.declared.attribute_set.AttributeSet.TheVariants.{InfoIpVlan as AtIpVlan}
use Rattle.npr_base.specs.Tables.{EnumTable, table_of, row, others, ◌or◌, exactly, value, refl, Reading, Family, writing_of, attributes_of}
use Rattle.npr_base.specs.Tables.{family_of_table}
use Rattle.npr_link_devices.specs.IpVlanFlags.{ip_vlan_flags}
use Rattle.npr_link_devices.specs.IpVlanMode.{ip_vlan_mode}
use Rattle.npr_link_devices.specs.contracts.ip_vlan.InfoIpVlan.{enum}
use Rattle.npr_link_devices.specs.declared.ip_vlan.InfoIpVlan.{InfoIpVlan}

-- the table, in the order of the variants
abbrev pub table : EnumTable enum
table =
    table_of enum (
    row AtIpVlan 1 (exactly ip_vlan_mode) (value InfoIpVlan.Mode)  -- IFLA_IPVLAN_MODE
    or row AtIpVlan 2 (exactly ip_vlan_flags) (value InfoIpVlan.Flags)  -- IFLA_IPVLAN_FLAGS
    or others (value InfoIpVlan.Other)) refl refl

-- the family
unfoldable pub attributes : Reading (writing_of table)
attributes = attributes_of table

abbrev pub family : Family InfoIpVlan (Unit {0})
family = family_of_table table (λ c. attributes)
