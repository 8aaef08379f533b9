-- The state of a port in a spanning tree (linux/if_bridge.h, IFLA_BRIDGE_MST_ENTRY_*), by the table.
use Rattle.npr_base.specs.declared.attribute_set.AttributeSet.TheVariants.{BridgeMstEntry as AtBridgeMstEntry}
use Rattle.npr_base.specs.Tables.{EnumTable, table_of, row, others, ◌or◌, exactly, le16, value, refl, Reading, Family, writing_of}
use Rattle.npr_base.specs.Tables.{attributes_of, family_of_table}
use Rattle.npr_link_bridge.specs.PortState.{port_state}
use Rattle.npr_link_bridge.specs.contracts.mst_entry.BridgeMstEntry.{enum}
use Rattle.npr_link_bridge.specs.declared.mst_entry.BridgeMstEntry.{BridgeMstEntry}

-- the table, in the order of the variants
abbrev pub table : EnumTable enum
table =
    table_of enum (
    row AtBridgeMstEntry 1 (exactly le16) (value BridgeMstEntry.Msti)  -- IFLA_BRIDGE_MST_ENTRY_MSTI
    or row AtBridgeMstEntry 2 (exactly port_state) (value BridgeMstEntry.State)  -- IFLA_BRIDGE_MST_ENTRY_STATE
    or others (value BridgeMstEntry.Other)) refl refl

-- the family
unfoldable pub attributes : Reading (writing_of table)
attributes = attributes_of table

abbrev pub family : Family BridgeMstEntry (Unit {0})
family = family_of_table table (λ c. attributes)
