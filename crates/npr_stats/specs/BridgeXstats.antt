-- What a bridge counts (linux/if_bridge.h, BRIDGE_XSTATS_*), by the table.
use Rattle.npr_base.specs.declared.attribute_set.AttributeSet.TheVariants.{BridgeXstats as AtBridgeXstats}
use Rattle.npr_base.specs.Tables.{EnumTable, table_of, row, others, ◌or◌, leading, seen, value, refl, Reading, Family, writing_of}
use Rattle.npr_base.specs.Tables.{attributes_of, family_of_table}
use Rattle.npr_base.specs.Words.{words64}
use Rattle.npr_link_statistics.specs.Grown.{grown, parts}
use Rattle.npr_stats.specs.BridgeMulticastStats.{bridge_multicast_stats}
use Rattle.npr_stats.specs.BridgeStpXstats.{bridge_stp_xstats}
use Rattle.npr_stats.specs.BridgeVlanXstats.{bridge_vlan_xstats}
use Rattle.npr_stats.specs.contracts.bridge_xstats.BridgeXstats.{enum}
use Rattle.npr_stats.specs.declared.bridge_xstats.BridgeXstats.{BridgeXstats}

-- the table, in the order of the variants
abbrev pub table : EnumTable enum
table =
    table_of enum (
    row AtBridgeXstats 1 (leading bridge_vlan_xstats) (value BridgeXstats.Vlan)  -- BRIDGE_XSTATS_VLAN
    or row AtBridgeXstats 2 (grown words64 bridge_multicast_stats) (seen (parts bridge_multicast_stats) BridgeXstats.Multicast)  -- BRIDGE_XSTATS_MCAST
    or row AtBridgeXstats 4 (leading bridge_stp_xstats) (value BridgeXstats.Stp)  -- BRIDGE_XSTATS_STP
    or others (value BridgeXstats.Other)) refl refl

-- the family
unfoldable pub attributes : Reading (writing_of table)
attributes = attributes_of table

abbrev pub family : Family BridgeXstats (Unit {0})
family = family_of_table table (λ c. attributes)
