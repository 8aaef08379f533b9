-- States of a port in spanning trees (linux/if_bridge.h, IFLA_BRIDGE_MST_*), by the table.
use Rattle.npr_base.specs.declared.attribute_set.AttributeSet.TheVariants.{BridgeMst as AtBridgeMst, BridgeMstEntry as AtEntry}
use Rattle.npr_base.specs.Tables.{EnumTable, table_of, row, others, ◌or◌, list_of, value, listed, refl, Reading, Family, writing_of}
use Rattle.npr_base.specs.Tables.{attributes_of, family_of_table}
use Rattle.npr_link_bridge.specs.MstEntry as OfEntry
use Rattle.npr_link_bridge.specs.contracts.mst.BridgeMst.{enum}
use Rattle.npr_link_bridge.specs.declared.mst.BridgeMst.{BridgeMst}

-- the table, in the order of the variants
abbrev pub table : EnumTable enum
table =
    table_of enum (
    row AtBridgeMst 1 (list_of AtEntry OfEntry.attributes) (listed OfEntry.family.meaning BridgeMst.Entry)  -- IFLA_BRIDGE_MST_ENTRY
    or others (value BridgeMst.Other)) refl refl

-- the family
unfoldable pub attributes : Reading (writing_of table)
attributes = attributes_of table

abbrev pub family : Family BridgeMst (Unit {0})
family = family_of_table table (λ c. attributes)
