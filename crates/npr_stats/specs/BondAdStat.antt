-- What a bond counts of the protocol of IEEE 802.3ad (linux/if_bonding.h, BOND_3AD_STAT_*), by the table.
use Rattle.npr_base.specs.declared.attribute_set.AttributeSet.TheVariants.{BondAdStat as AtBondAdStat}
use Rattle.npr_base.specs.Tables.{EnumTable, table_of, row, others, ◌or◌, exactly, le64, value, refl, Reading, Family, writing_of}
use Rattle.npr_base.specs.Tables.{attributes_of, family_of_table}
use Rattle.npr_stats.specs.contracts.bond_ad_stat.BondAdStat.{enum}
use Rattle.npr_stats.specs.declared.bond_ad_stat.BondAdStat.{BondAdStat}

-- the table, in the order of the variants
abbrev pub table : EnumTable enum
table =
    table_of enum (
    row AtBondAdStat 0 (exactly le64) (value BondAdStat.LacpduRx)  -- BOND_3AD_STAT_LACPDU_RX
    or row AtBondAdStat 1 (exactly le64) (value BondAdStat.LacpduTx)  -- BOND_3AD_STAT_LACPDU_TX
    or row AtBondAdStat 2 (exactly le64) (value BondAdStat.LacpduUnknownRx)  -- BOND_3AD_STAT_LACPDU_UNKNOWN_RX
    or row AtBondAdStat 3 (exactly le64) (value BondAdStat.LacpduIllegalRx)  -- BOND_3AD_STAT_LACPDU_ILLEGAL_RX
    or row AtBondAdStat 4 (exactly le64) (value BondAdStat.MarkerRx)  -- BOND_3AD_STAT_MARKER_RX
    or row AtBondAdStat 5 (exactly le64) (value BondAdStat.MarkerTx)  -- BOND_3AD_STAT_MARKER_TX
    or row AtBondAdStat 6 (exactly le64) (value BondAdStat.MarkerRespRx)  -- BOND_3AD_STAT_MARKER_RESP_RX
    or row AtBondAdStat 7 (exactly le64) (value BondAdStat.MarkerRespTx)  -- BOND_3AD_STAT_MARKER_RESP_TX
    or row AtBondAdStat 8 (exactly le64) (value BondAdStat.MarkerUnknownRx)  -- BOND_3AD_STAT_MARKER_UNKNOWN_RX
    or others (value BondAdStat.Other)) refl refl

-- the family
unfoldable pub attributes : Reading (writing_of table)
attributes = attributes_of table

abbrev pub family : Family BondAdStat (Unit {0})
family = family_of_table table (λ c. attributes)
