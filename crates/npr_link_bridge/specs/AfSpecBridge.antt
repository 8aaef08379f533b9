-- What a bridge says of a port or of itself (linux/if_bridge.h, IFLA_BRIDGE_*), by the table.
use Rattle.npr_base.specs.declared.attribute_set.AttributeSet.TheVariants.{AfSpecBridge as AtAfSpecBridge, BridgeVlanTunnelInfo as AtTunnel, BridgeMst as AtMst}
use Rattle.npr_base.specs.Tables.{EnumTable, table_of, row, marked_row, others, ◌or◌, exactly, list_of, value, listed, refl, Reading, Family, writing_of}
use Rattle.npr_base.specs.Tables.{attributes_of, family_of_table}
use Rattle.npr_link_bridge.specs.BridgeFlag.{bridge_flag}
use Rattle.npr_link_bridge.specs.BridgeMode.{bridge_mode}
use Rattle.npr_link_bridge.specs.Mst as OfMst
use Rattle.npr_link_bridge.specs.VlanInfo.{vlan_info}
use Rattle.npr_link_bridge.specs.VlanTunnel as OfTunnel
use Rattle.npr_link_bridge.specs.contracts.af_spec_bridge.AfSpecBridge.{enum}
use Rattle.npr_link_bridge.specs.declared.af_spec_bridge.AfSpecBridge.{AfSpecBridge}

-- the table, in the order of the variants
abbrev pub table : EnumTable enum
table =
    table_of enum (
    row AtAfSpecBridge 0 (exactly bridge_flag) (value AfSpecBridge.Flags)  -- IFLA_BRIDGE_FLAGS
    or row AtAfSpecBridge 1 (exactly bridge_mode) (value AfSpecBridge.Mode)  -- IFLA_BRIDGE_MODE
    or row AtAfSpecBridge 2 (exactly vlan_info) (value AfSpecBridge.VlanInfo)  -- IFLA_BRIDGE_VLAN_INFO
    or row AtAfSpecBridge 3 (list_of AtTunnel OfTunnel.attributes) (listed OfTunnel.family.meaning AfSpecBridge.VlanTunnelInfo)  -- IFLA_BRIDGE_VLAN_TUNNEL_INFO
    or marked_row AtAfSpecBridge 6 (list_of AtMst OfMst.attributes) (listed OfMst.family.meaning AfSpecBridge.Mst)  -- IFLA_BRIDGE_MST
    or others (value AfSpecBridge.Other)) refl refl

-- the family
unfoldable pub attributes : Reading (writing_of table)
attributes = attributes_of table

abbrev pub family : Family AfSpecBridge (Unit {0})
family = family_of_table table (λ c. attributes)
