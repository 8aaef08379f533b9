-- Who asks for multicast groups (linux/if_bridge.h, BRIDGE_QUERIER_*), by the table.
use Rattle.npr_base.specs.declared.attribute_set.AttributeSet.TheVariants.{BridgeQuerierState as AtQuerierState}
use Rattle.npr_base.specs.Tables.{EnumTable, table_of, row, others, ◌or◌, exactly, le32, le64, octets4, octets16, value, refl, Reading, Family, writing_of}
use Rattle.npr_base.specs.Tables.{attributes_of, family_of_table}
use Rattle.npr_link_bridge.specs.contracts.querier_state.BridgeQuerierState.{enum}
use Rattle.npr_link_bridge.specs.declared.querier_state.BridgeQuerierState.{BridgeQuerierState}

-- the table, in the order of the variants
abbrev pub table : EnumTable enum
table =
    table_of enum (
    row AtQuerierState 1 (exactly octets4) (value BridgeQuerierState.Ipv4Address)  -- BRIDGE_QUERIER_IP_ADDRESS
    or row AtQuerierState 2 (exactly le32) (value BridgeQuerierState.Ipv4Port)  -- BRIDGE_QUERIER_IP_PORT
    or row AtQuerierState 3 (exactly le64) (value BridgeQuerierState.Ipv4OtherTimer)  -- BRIDGE_QUERIER_IP_OTHER_TIMER
    or row AtQuerierState 5 (exactly octets16) (value BridgeQuerierState.Ipv6Address)  -- BRIDGE_QUERIER_IPV6_ADDRESS
    or row AtQuerierState 6 (exactly le32) (value BridgeQuerierState.Ipv6Port)  -- BRIDGE_QUERIER_IPV6_PORT
    or row AtQuerierState 7 (exactly le64) (value BridgeQuerierState.Ipv6OtherTimer)  -- BRIDGE_QUERIER_IPV6_OTHER_TIMER
    or others (value BridgeQuerierState.Other)) refl refl

-- the family
unfoldable pub attributes : Reading (writing_of table)
attributes = attributes_of table

abbrev pub family : Family BridgeQuerierState (Unit {0})
family = family_of_table table (λ c. attributes)
