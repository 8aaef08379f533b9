-- The data of a MACVLAN (linux/if_link.h, IFLA_MACVLAN_*), by the table.
use Rattle.npr_base.specs.declared.attribute_set.AttributeSet.TheVariants.{InfoMacVlan as AtMacVlan, MacVlanAddress as AtAddress}
use Rattle.npr_base.specs.Tables.{EnumTable, table_of, row, others, ◌or◌, exactly, le32, list_of, listed, octets, signed32, value, refl, Reading, Family}
use Rattle.npr_base.specs.Tables.{writing_of, attributes_of, family_of_table}
use Rattle.npr_link_devices.specs.MacVlanAddress as OfAddress
use Rattle.npr_link_devices.specs.MacVlanAddressMode.{mac_vlan_address_mode}
use Rattle.npr_link_devices.specs.MacVlanFlags.{mac_vlan_flags}
use Rattle.npr_link_devices.specs.MacVlanMode.{mac_vlan_mode}
use Rattle.npr_link_devices.specs.contracts.mac_vlan.InfoMacVlan.{enum}
use Rattle.npr_link_devices.specs.declared.mac_vlan.InfoMacVlan.{InfoMacVlan}

-- the table, in the order of the variants
abbrev pub table : EnumTable enum
table =
    table_of enum (
    row AtMacVlan 1 (exactly mac_vlan_mode) (value InfoMacVlan.Mode)  -- IFLA_MACVLAN_MODE
    or row AtMacVlan 2 (exactly mac_vlan_flags) (value InfoMacVlan.Flags)  -- IFLA_MACVLAN_FLAGS
    or row AtMacVlan 3 (exactly mac_vlan_address_mode) (value InfoMacVlan.MacAddrMode)  -- IFLA_MACVLAN_MACADDR_MODE
    or row AtMacVlan 4 (exactly (octets 6)) (value InfoMacVlan.MacAddr)  -- IFLA_MACVLAN_MACADDR
    or row AtMacVlan 5 (list_of AtAddress OfAddress.attributes) (listed OfAddress.family.meaning InfoMacVlan.MacAddrData)  -- IFLA_MACVLAN_MACADDR_DATA
    or row AtMacVlan 6 (exactly le32) (value InfoMacVlan.MacAddrCount)  -- IFLA_MACVLAN_MACADDR_COUNT
    or row AtMacVlan 7 (exactly le32) (value InfoMacVlan.BcQueueLen)  -- IFLA_MACVLAN_BC_QUEUE_LEN
    or row AtMacVlan 8 (exactly le32) (value InfoMacVlan.BcQueueLenUsed)  -- IFLA_MACVLAN_BC_QUEUE_LEN_USED
    or row AtMacVlan 9 (exactly signed32) (value InfoMacVlan.BcCutoff)  -- IFLA_MACVLAN_BC_CUTOFF
    or others (value InfoMacVlan.Other)) refl refl

-- the family
unfoldable pub attributes : Reading (writing_of table)
attributes = attributes_of table

abbrev pub family : Family InfoMacVlan (Unit {0})
family = family_of_table table (λ c. attributes)
