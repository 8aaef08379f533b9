-- The data of a port of a bridge (linux/if_link.h, IFLA_BRPORT_*), by the table.
use Rattle.std.specs.Prelude.{false}
use Rattle.npr_base.specs.declared.attribute_set.AttributeSet.TheVariants.{InfoBridgePort as AtBridgePort}
use Rattle.npr_base.specs.Counts.{Counts}
use Rattle.npr_base.specs.Framing.{Item}
use Rattle.npr_base.specs.RowReading.{looks-none}
use Rattle.npr_base.specs.Tables.{EnumTable, table_of, row, others, ◌or◌, boolean, dropped, exactly, le16, le32, le64, leading, nothing, value, refl}
use Rattle.npr_base.specs.Tables.{Reading, Family, writing_of}
use Rattle.npr_base.specs.Tables.{attributes_of, family_of_table}
use Rattle.npr_link_bridge.specs.BridgeId.{bridge_id}
use Rattle.npr_link_bridge.specs.MulticastRouter.{router_type}
use Rattle.npr_link_bridge.specs.PortState.{port_state}
use Rattle.npr_link_bridge.specs.contracts.bridge_port.InfoBridgePort.{enum}
use Rattle.npr_link_bridge.specs.declared.bridge_port.InfoBridgePort.{InfoBridgePort}

-- the table, in the order of the variants
abbrev pub table : EnumTable enum
table =
    table_of enum (
    row AtBridgePort 1 (exactly port_state) (value InfoBridgePort.State)  -- IFLA_BRPORT_STATE
    or row AtBridgePort 2 (exactly le16) (value InfoBridgePort.Priority)  -- IFLA_BRPORT_PRIORITY
    or row AtBridgePort 3 (exactly le32) (value InfoBridgePort.Cost)  -- IFLA_BRPORT_COST
    or row AtBridgePort 4 (exactly boolean) (value InfoBridgePort.HairpinMode)  -- IFLA_BRPORT_MODE
    or row AtBridgePort 5 (exactly boolean) (value InfoBridgePort.Guard)  -- IFLA_BRPORT_GUARD
    or row AtBridgePort 6 (exactly boolean) (value InfoBridgePort.Protect)  -- IFLA_BRPORT_PROTECT
    or row AtBridgePort 7 (exactly boolean) (value InfoBridgePort.FastLeave)  -- IFLA_BRPORT_FAST_LEAVE
    or row AtBridgePort 8 (exactly boolean) (value InfoBridgePort.Learning)  -- IFLA_BRPORT_LEARNING
    or row AtBridgePort 9 (exactly boolean) (value InfoBridgePort.UnicastFlood)  -- IFLA_BRPORT_UNICAST_FLOOD
    or row AtBridgePort 10 (exactly boolean) (value InfoBridgePort.ProxyARP)  -- IFLA_BRPORT_PROXYARP
    or row AtBridgePort 11 (exactly boolean) (value InfoBridgePort.LearningSync)  -- IFLA_BRPORT_LEARNING_SYNC
    or row AtBridgePort 12 (exactly boolean) (value InfoBridgePort.ProxyARPWifi)  -- IFLA_BRPORT_PROXYARP_WIFI
    or row AtBridgePort 13 (leading bridge_id) (value InfoBridgePort.RootId)  -- IFLA_BRPORT_ROOT_ID
    or row AtBridgePort 14 (leading bridge_id) (value InfoBridgePort.BridgeId)  -- IFLA_BRPORT_BRIDGE_ID
    or row AtBridgePort 15 (exactly le16) (value InfoBridgePort.DesignatedPort)  -- IFLA_BRPORT_DESIGNATED_PORT
    or row AtBridgePort 16 (exactly le16) (value InfoBridgePort.DesignatedCost)  -- IFLA_BRPORT_DESIGNATED_COST
    or row AtBridgePort 17 (exactly le16) (value InfoBridgePort.PortId)  -- IFLA_BRPORT_ID
    or row AtBridgePort 18 (exactly le16) (value InfoBridgePort.PortNumber)  -- IFLA_BRPORT_NO
    or row AtBridgePort 19 (exactly boolean) (value InfoBridgePort.TopologyChangeAck)  -- IFLA_BRPORT_TOPOLOGY_CHANGE_ACK
    or row AtBridgePort 20 (exactly boolean) (value InfoBridgePort.ConfigPending)  -- IFLA_BRPORT_CONFIG_PENDING
    or row AtBridgePort 21 (exactly le64) (value InfoBridgePort.MessageAgeTimer)  -- IFLA_BRPORT_MESSAGE_AGE_TIMER
    or row AtBridgePort 22 (exactly le64) (value InfoBridgePort.ForwardDelayTimer)  -- IFLA_BRPORT_FORWARD_DELAY_TIMER
    or row AtBridgePort 23 (exactly le64) (value InfoBridgePort.HoldTimer)  -- IFLA_BRPORT_HOLD_TIMER
    or row AtBridgePort 24 dropped (nothing InfoBridgePort.Flush)  -- IFLA_BRPORT_FLUSH
    or row AtBridgePort 25 (exactly router_type) (value InfoBridgePort.MulticastRouter)  -- IFLA_BRPORT_MULTICAST_ROUTER
    or row AtBridgePort 27 (exactly boolean) (value InfoBridgePort.MulticastFlood)  -- IFLA_BRPORT_MCAST_FLOOD
    or row AtBridgePort 28 (exactly boolean) (value InfoBridgePort.MulticastToUnicast)  -- IFLA_BRPORT_MCAST_TO_UCAST
    or row AtBridgePort 29 (exactly boolean) (value InfoBridgePort.VlanTunnel)  -- IFLA_BRPORT_VLAN_TUNNEL
    or row AtBridgePort 30 (exactly boolean) (value InfoBridgePort.BroadcastFlood)  -- IFLA_BRPORT_BCAST_FLOOD
    or row AtBridgePort 31 (exactly le16) (value InfoBridgePort.GroupFwdMask)  -- IFLA_BRPORT_GROUP_FWD_MASK
    or row AtBridgePort 32 (exactly boolean) (value InfoBridgePort.NeighSupress)  -- IFLA_BRPORT_NEIGH_SUPPRESS
    or row AtBridgePort 33 (exactly boolean) (value InfoBridgePort.Isolated)  -- IFLA_BRPORT_ISOLATED
    or row AtBridgePort 34 (exactly le32) (value InfoBridgePort.BackupPort)  -- IFLA_BRPORT_BACKUP_PORT
    or row AtBridgePort 35 (exactly boolean) (value InfoBridgePort.MrpRingOpen)  -- IFLA_BRPORT_MRP_RING_OPEN
    or row AtBridgePort 36 (exactly boolean) (value InfoBridgePort.MrpInOpen)  -- IFLA_BRPORT_MRP_IN_OPEN
    or row AtBridgePort 37 (exactly le32) (value InfoBridgePort.MulticastEhtHostsLimit)  -- IFLA_BRPORT_MCAST_EHT_HOSTS_LIMIT
    or row AtBridgePort 38 (exactly le32) (value InfoBridgePort.MulticastEhtHostsCnt)  -- IFLA_BRPORT_MCAST_EHT_HOSTS_CNT
    or row AtBridgePort 39 (exactly boolean) (value InfoBridgePort.Locked)  -- IFLA_BRPORT_LOCKED
    or row AtBridgePort 40 (exactly boolean) (value InfoBridgePort.Mab)  -- IFLA_BRPORT_MAB
    or row AtBridgePort 41 (exactly le32) (value InfoBridgePort.MulticastNGroups)  -- IFLA_BRPORT_MCAST_N_GROUPS
    or row AtBridgePort 42 (exactly le32) (value InfoBridgePort.MulticastMaxGroups)  -- IFLA_BRPORT_MCAST_MAX_GROUPS
    or row AtBridgePort 43 (exactly boolean) (value InfoBridgePort.NeighVlanSupress)  -- IFLA_BRPORT_NEIGH_VLAN_SUPPRESS
    or row AtBridgePort 44 (exactly le32) (value InfoBridgePort.BackupNextHopId)  -- IFLA_BRPORT_BACKUP_NHID
    or row AtBridgePort 45 (exactly boolean) (value InfoBridgePort.NeighForwardGrat)  -- IFLA_BRPORT_NEIGH_FORWARD_GRAT
    or others (value InfoBridgePort.Other)) refl refl

-- the family
unfoldable pub attributes : Reading (writing_of table)
attributes = attributes_of table

abbrev pub family : Family InfoBridgePort (Unit {0})
family = family_of_table table (λ c. attributes)

-- no attribute has others inside
pub no_looks : (x : Item) (c : Counts) → attributes.looks.Takes x c c
unfolding attributes
no_looks x c = looks-none (λ k. false) enum.parts table.rows refl x c refl
