-- The data of a bridge (linux/if_link.h, IFLA_BR_*), by the table.
use Rattle.std.specs.Prelude.{◌≢◌, ◌==◌}
use Rattle.std.proofs.lemmas.Bool.{ne_eqb}
use Rattle.npr_base.specs.declared.attribute_set.AttributeSet.TheVariants.{InfoBridge as AtBridge, BridgeQuerierState as AtQuerier}
use Rattle.npr_base.specs.Counts.{Counts}
use Rattle.npr_base.specs.Framing.{Item, number_of}
use Rattle.npr_base.specs.RowReading.{looks-none}
use Rattle.npr_base.specs.Tables.{EnumTable, table_of, marked_row, row, others, ◌or◌, boolean, byte, dropped, exactly, le16, le32, le64, leading, list_of}
use Rattle.npr_base.specs.Tables.{listed, nothing, octets}
use Rattle.npr_base.specs.Tables.{value, refl, Reading, Family, writing_of, attributes_of, family_of_table}
use Rattle.npr_link_bridge.specs.BooleanOptions.{boolean_options}
use Rattle.npr_link_bridge.specs.BridgeId.{bridge_id}
use Rattle.npr_link_bridge.specs.MulticastRouter.{router_type}
use Rattle.npr_link_bridge.specs.QuerierState as OfQuerier
use Rattle.npr_link_bridge.specs.StpState.{stp_state}
use Rattle.npr_link_bridge.specs.VlanProtocol.{vlan_protocol}
use Rattle.npr_link_bridge.specs.contracts.bridge.InfoBridge.{enum}
use Rattle.npr_link_bridge.specs.declared.bridge.InfoBridge.{InfoBridge}
use Rattle.npr_link_bridge.specs.declared.bridge.InfoBridge.TheVariants.{MulticastQuerierState}

-- the table, in the order of the variants
abbrev pub table : EnumTable enum
table =
    table_of enum (
    row AtBridge 1 (exactly le32) (value InfoBridge.ForwardDelay)  -- IFLA_BR_FORWARD_DELAY
    or row AtBridge 2 (exactly le32) (value InfoBridge.HelloTime)  -- IFLA_BR_HELLO_TIME
    or row AtBridge 3 (exactly le32) (value InfoBridge.MaxAge)  -- IFLA_BR_MAX_AGE
    or row AtBridge 4 (exactly le32) (value InfoBridge.AgeingTime)  -- IFLA_BR_AGEING_TIME
    or row AtBridge 5 (exactly stp_state) (value InfoBridge.StpState)  -- IFLA_BR_STP_STATE
    or row AtBridge 6 (exactly le16) (value InfoBridge.Priority)  -- IFLA_BR_PRIORITY
    or row AtBridge 7 (exactly boolean) (value InfoBridge.VlanFiltering)  -- IFLA_BR_VLAN_FILTERING
    or row AtBridge 8 (exactly vlan_protocol) (value InfoBridge.VlanProtocol)  -- IFLA_BR_VLAN_PROTOCOL
    or row AtBridge 9 (exactly le16) (value InfoBridge.GroupFwdMask)  -- IFLA_BR_GROUP_FWD_MASK
    or row AtBridge 10 (leading bridge_id) (value InfoBridge.RootId)  -- IFLA_BR_ROOT_ID
    or row AtBridge 11 (leading bridge_id) (value InfoBridge.BridgeId)  -- IFLA_BR_BRIDGE_ID
    or row AtBridge 12 (exactly le16) (value InfoBridge.RootPort)  -- IFLA_BR_ROOT_PORT
    or row AtBridge 13 (exactly le32) (value InfoBridge.RootPathCost)  -- IFLA_BR_ROOT_PATH_COST
    or row AtBridge 14 (exactly byte) (value InfoBridge.TopologyChange)  -- IFLA_BR_TOPOLOGY_CHANGE
    or row AtBridge 15 (exactly byte) (value InfoBridge.TopologyChangeDetected)  -- IFLA_BR_TOPOLOGY_CHANGE_DETECTED
    or row AtBridge 16 (exactly le64) (value InfoBridge.HelloTimer)  -- IFLA_BR_HELLO_TIMER
    or row AtBridge 17 (exactly le64) (value InfoBridge.TcnTimer)  -- IFLA_BR_TCN_TIMER
    or row AtBridge 18 (exactly le64) (value InfoBridge.TopologyChangeTimer)  -- IFLA_BR_TOPOLOGY_CHANGE_TIMER
    or row AtBridge 19 (exactly le64) (value InfoBridge.GcTimer)  -- IFLA_BR_GC_TIMER
    or row AtBridge 20 (exactly (octets 6)) (value InfoBridge.GroupAddr)  -- IFLA_BR_GROUP_ADDR
    or row AtBridge 21 dropped (nothing InfoBridge.FdbFlush)  -- IFLA_BR_FDB_FLUSH
    or row AtBridge 22 (exactly router_type) (value InfoBridge.MulticastRouter)  -- IFLA_BR_MCAST_ROUTER
    or row AtBridge 23 (exactly boolean) (value InfoBridge.MulticastSnooping)  -- IFLA_BR_MCAST_SNOOPING
    or row AtBridge 24 (exactly boolean) (value InfoBridge.MulticastQueryUseIfaddr)  -- IFLA_BR_MCAST_QUERY_USE_IFADDR
    or row AtBridge 25 (exactly boolean) (value InfoBridge.MulticastQuerier)  -- IFLA_BR_MCAST_QUERIER
    or row AtBridge 26 (exactly le32) (value InfoBridge.MulticastHashElasticity)  -- IFLA_BR_MCAST_HASH_ELASTICITY
    or row AtBridge 27 (exactly le32) (value InfoBridge.MulticastHashMax)  -- IFLA_BR_MCAST_HASH_MAX
    or row AtBridge 28 (exactly le32) (value InfoBridge.MulticastLastMemberCount)  -- IFLA_BR_MCAST_LAST_MEMBER_CNT
    or row AtBridge 29 (exactly le32) (value InfoBridge.MulticastStartupQueryCount)  -- IFLA_BR_MCAST_STARTUP_QUERY_CNT
    or row AtBridge 30 (exactly le64) (value InfoBridge.MulticastLastMemberInterval)  -- IFLA_BR_MCAST_LAST_MEMBER_INTVL
    or row AtBridge 31 (exactly le64) (value InfoBridge.MulticastMembershipInterval)  -- IFLA_BR_MCAST_MEMBERSHIP_INTVL
    or row AtBridge 32 (exactly le64) (value InfoBridge.MulticastQuerierInterval)  -- IFLA_BR_MCAST_QUERIER_INTVL
    or row AtBridge 33 (exactly le64) (value InfoBridge.MulticastQueryInterval)  -- IFLA_BR_MCAST_QUERY_INTVL
    or row AtBridge 34 (exactly le64) (value InfoBridge.MulticastQueryResponseInterval)  -- IFLA_BR_MCAST_QUERY_RESPONSE_INTVL
    or row AtBridge 35 (exactly le64) (value InfoBridge.MulticastStartupQueryInterval)  -- IFLA_BR_MCAST_STARTUP_QUERY_INTVL
    or row AtBridge 36 (exactly boolean) (value InfoBridge.NfCallIpTables)  -- IFLA_BR_NF_CALL_IPTABLES
    or row AtBridge 37 (exactly boolean) (value InfoBridge.NfCallIp6Tables)  -- IFLA_BR_NF_CALL_IP6TABLES
    or row AtBridge 38 (exactly boolean) (value InfoBridge.NfCallArpTables)  -- IFLA_BR_NF_CALL_ARPTABLES
    or row AtBridge 39 (exactly le16) (value InfoBridge.VlanDefaultPvid)  -- IFLA_BR_VLAN_DEFAULT_PVID
    or row AtBridge 41 (exactly boolean) (value InfoBridge.VlanStatsEnabled)  -- IFLA_BR_VLAN_STATS_ENABLED
    or row AtBridge 42 (exactly boolean) (value InfoBridge.MulticastStatsEnabled)  -- IFLA_BR_MCAST_STATS_ENABLED
    or row AtBridge 43 (exactly byte) (value InfoBridge.MulticastIgmpVersion)  -- IFLA_BR_MCAST_IGMP_VERSION
    or row AtBridge 44 (exactly byte) (value InfoBridge.MulticastMldVersion)  -- IFLA_BR_MCAST_MLD_VERSION
    or row AtBridge 45 (exactly boolean) (value InfoBridge.VlanStatsPerPort)  -- IFLA_BR_VLAN_STATS_PER_PORT
    or row AtBridge 46 (exactly boolean_options) (value InfoBridge.MultiBoolOpt)  -- IFLA_BR_MULTI_BOOLOPT
    or marked_row AtBridge 47 (list_of AtQuerier OfQuerier.attributes) (listed OfQuerier.family.meaning MulticastQuerierState)  -- IFLA_BR_MCAST_QUERIER_STATE
    or row AtBridge 48 (exactly le32) (value InfoBridge.FdbNLearned)  -- IFLA_BR_FDB_N_LEARNED
    or row AtBridge 49 (exactly le32) (value InfoBridge.FdbMaxLearned)  -- IFLA_BR_FDB_MAX_LEARNED
    or row AtBridge 50 (exactly le32) (value InfoBridge.StpMode)  -- IFLA_BR_STP_MODE
    or others (value InfoBridge.Other)) refl refl

-- the family
unfoldable pub attributes : Reading (writing_of table)
attributes = attributes_of table

abbrev pub family : Family InfoBridge (Unit {0})
family = family_of_table table (λ c. attributes)

-- no attribute but those of number 47 has others inside
pub no_looks : (x : Item) (c : Counts) → (number_of x.kind ≢ 47) → attributes.looks.Takes x c c
unfolding attributes
no_looks x c other = looks-none (λ k. k == 47) enum.parts table.rows refl x c (ne_eqb (number_of x.kind) 47 other)
