-- What a link says of a virtual function (linux/if_link.h, IFLA_VF_*), by the table.
use Rattle.npr_base.specs.declared.attribute_set.AttributeSet.TheVariants.{VfInfo as AtVfInfo, VfStats as AtVfStats, VfVlan as AtVfVlan}
use Rattle.npr_base.specs.Tables.{EnumTable, table_of, row, others, ◌or◌, leading, list_of, listed, value}
use Rattle.npr_base.specs.Tables.{refl, Reading, Family, writing_of, attributes_of, family_of_table}
use Rattle.npr_link_functions.specs.VfBroadcast.{vf_broadcast}
use Rattle.npr_link_functions.specs.VfGuid.{vf_guid}
use Rattle.npr_link_functions.specs.VfLinkState.{vf_state}
use Rattle.npr_link_functions.specs.VfMac.{vf_mac}
use Rattle.npr_link_functions.specs.VfRate.{vf_rate}
use Rattle.npr_link_functions.specs.VfSetting.{vf_setting}
use Rattle.npr_link_functions.specs.VfStats as OfVfStats
use Rattle.npr_link_functions.specs.VfTxRate.{vf_tx_rate}
use Rattle.npr_link_functions.specs.VfVlan.{vf_vlan}
use Rattle.npr_link_functions.specs.VfVlanList as OfVfVlan
use Rattle.npr_link_functions.specs.contracts.vf_info.VfInfo.{enum}
use Rattle.npr_link_functions.specs.declared.vf_info.VfInfo.{VfInfo}

-- the table, in the order of the variants
abbrev pub table : EnumTable enum
table =
    table_of enum (
    row AtVfInfo 1 (leading vf_mac) (value VfInfo.Mac)  -- IFLA_VF_MAC
    or row AtVfInfo 2 (leading vf_vlan) (value VfInfo.Vlan)  -- IFLA_VF_VLAN
    or row AtVfInfo 3 (leading vf_tx_rate) (value VfInfo.TxRate)  -- IFLA_VF_TX_RATE
    or row AtVfInfo 4 (leading vf_setting) (value VfInfo.SpoofCheck)  -- IFLA_VF_SPOOFCHK
    or row AtVfInfo 5 (leading vf_state) (value VfInfo.LinkState)  -- IFLA_VF_LINK_STATE
    or row AtVfInfo 6 (leading vf_rate) (value VfInfo.Rate)  -- IFLA_VF_RATE
    or row AtVfInfo 7 (leading vf_setting) (value VfInfo.RssQueryEn)  -- IFLA_VF_RSS_QUERY_EN
    or row AtVfInfo 8 (list_of AtVfStats OfVfStats.attributes) (listed OfVfStats.family.meaning VfInfo.Stats)  -- IFLA_VF_STATS
    or row AtVfInfo 9 (leading vf_setting) (value VfInfo.Trust)  -- IFLA_VF_TRUST
    or row AtVfInfo 10 (leading vf_guid) (value VfInfo.IbNodeGuid)  -- IFLA_VF_IB_NODE_GUID
    or row AtVfInfo 11 (leading vf_guid) (value VfInfo.IbPortGuid)  -- IFLA_VF_IB_PORT_GUID
    or row AtVfInfo 12 (list_of AtVfVlan OfVfVlan.attributes) (listed OfVfVlan.family.meaning VfInfo.VlanList)  -- IFLA_VF_VLAN_LIST
    or row AtVfInfo 13 (leading vf_broadcast) (value VfInfo.Broadcast)  -- IFLA_VF_BROADCAST
    or others (value VfInfo.Other)) refl refl

-- the family
unfoldable pub attributes : Reading (writing_of table)
attributes = attributes_of table

abbrev pub family : Family VfInfo (Unit {0})
family = family_of_table table (λ c. attributes)
