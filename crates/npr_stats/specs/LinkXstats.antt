-- What kinds of link count besides (linux/if_link.h, LINK_XSTATS_TYPE_*), by the table.
use Rattle.npr_base.specs.declared.attribute_set.AttributeSet.TheVariants.{BondXstats as AtBondXstats, BridgeXstats as AtBridgeXstats}
use Rattle.npr_base.specs.declared.attribute_set.AttributeSet.TheVariants.{LinkXstats as AtLinkXstats}
use Rattle.npr_base.specs.Tables.{EnumTable, table_of, row, others, ◌or◌, list_of, listed, value, refl, Reading, Family, writing_of}
use Rattle.npr_base.specs.Tables.{attributes_of, family_of_table}
use Rattle.npr_stats.specs.BondXstats as OfBondXstats
use Rattle.npr_stats.specs.BridgeXstats as OfBridgeXstats
use Rattle.npr_stats.specs.contracts.link_xstats.LinkXstats.{enum}
use Rattle.npr_stats.specs.declared.link_xstats.LinkXstats.{LinkXstats}

-- the table, in the order of the variants
abbrev pub table : EnumTable enum
table =
    table_of enum (
    row AtLinkXstats 1 (list_of AtBridgeXstats OfBridgeXstats.attributes) (listed OfBridgeXstats.family.meaning LinkXstats.Bridge)  -- LINK_XSTATS_TYPE_BRIDGE
    or row AtLinkXstats 2 (list_of AtBondXstats OfBondXstats.attributes) (listed OfBondXstats.family.meaning LinkXstats.Bond)  -- LINK_XSTATS_TYPE_BOND
    or others (value LinkXstats.Other)) refl refl

-- the family
unfoldable pub attributes : Reading (writing_of table)
attributes = attributes_of table

abbrev pub family : Family LinkXstats (Unit {0})
family = family_of_table table (λ c. attributes)
