-- A source of a MACVLAN (linux/if_link.h, IFLA_MACVLAN_MACADDR), by the table.
use Rattle.npr_base.specs.declared.attribute_set.AttributeSet.TheVariants.{MacVlanAddress as AtMacVlanAddress}
use Rattle.npr_base.specs.Tables.{EnumTable, table_of, row, others, ◌or◌, exactly, octets, value, refl, Reading, Family, writing_of, attributes_of}
use Rattle.npr_base.specs.Tables.{family_of_table}
use Rattle.npr_link_devices.specs.contracts.mac_vlan_address.MacVlanAddress.{enum}
use Rattle.npr_link_devices.specs.declared.mac_vlan_address.MacVlanAddress.{MacVlanAddress}

-- the table, in the order of the variants
abbrev pub table : EnumTable enum
table =
    table_of enum (
    row AtMacVlanAddress 4 (exactly (octets 6)) (value MacVlanAddress.MacAddr)  -- IFLA_MACVLAN_MACADDR
    or others (value MacVlanAddress.Other)) refl refl

-- the family
unfoldable pub attributes : Reading (writing_of table)
attributes = attributes_of table

abbrev pub family : Family MacVlanAddress (Unit {0})
family = family_of_table table (λ c. attributes)
