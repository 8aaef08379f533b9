-- The tunnel of a VLAN of a port (linux/if_bridge.h, IFLA_BRIDGE_VLAN_TUNNEL_*), by the table.
use Rattle.npr_base.specs.declared.attribute_set.AttributeSet.TheVariants.{BridgeVlanTunnelInfo as AtBridgeVlanTunnelInfo}
use Rattle.npr_base.specs.Tables.{EnumTable, table_of, row, others, ◌or◌, exactly, le16, le32, value, refl, Reading, Family, writing_of}
use Rattle.npr_base.specs.Tables.{attributes_of, family_of_table}
use Rattle.npr_link_bridge.specs.VlanInfoFlags.{vlan_info_flags}
use Rattle.npr_link_bridge.specs.contracts.vlan_tunnel.BridgeVlanTunnelInfo.{enum}
use Rattle.npr_link_bridge.specs.declared.vlan_tunnel.BridgeVlanTunnelInfo.{BridgeVlanTunnelInfo}

-- the table, in the order of the variants
abbrev pub table : EnumTable enum
table =
    table_of enum (
    row AtBridgeVlanTunnelInfo 1 (exactly le32) (value BridgeVlanTunnelInfo.Id)  -- IFLA_BRIDGE_VLAN_TUNNEL_ID
    or row AtBridgeVlanTunnelInfo 2 (exactly le16) (value BridgeVlanTunnelInfo.Vid)  -- IFLA_BRIDGE_VLAN_TUNNEL_VID
    or row AtBridgeVlanTunnelInfo 3 (exactly vlan_info_flags) (value BridgeVlanTunnelInfo.Flags)  -- IFLA_BRIDGE_VLAN_TUNNEL_FLAGS
    or others (value BridgeVlanTunnelInfo.Other)) refl refl

-- the family
unfoldable pub attributes : Reading (writing_of table)
attributes = attributes_of table

abbrev pub family : Family BridgeVlanTunnelInfo (Unit {0})
family = family_of_table table (λ c. attributes)
