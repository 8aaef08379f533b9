-- What a bond counts (linux/if_bonding.h, BOND_XSTATS_*), by the table.
use Rattle.npr_base.specs.declared.attribute_set.AttributeSet.TheVariants.{BondAdStat as AtBondAdStat, BondXstats as AtBondXstats}
use Rattle.npr_base.specs.Tables.{EnumTable, table_of, row, others, ◌or◌, list_of, listed, value, refl, Reading, Family, writing_of}
use Rattle.npr_base.specs.Tables.{attributes_of, family_of_table}
use Rattle.npr_stats.specs.BondAdStat as OfBondAdStat
use Rattle.npr_stats.specs.contracts.bond_xstats.BondXstats.{enum}
use Rattle.npr_stats.specs.declared.bond_xstats.BondXstats.{BondXstats}

-- the table, in the order of the variants
abbrev pub table : EnumTable enum
table =
    table_of enum (
    row AtBondXstats 1 (list_of AtBondAdStat OfBondAdStat.attributes) (listed OfBondAdStat.family.meaning BondXstats.Ad)  -- BOND_XSTATS_3AD
    or others (value BondXstats.Other)) refl refl

-- the family
unfoldable pub attributes : Reading (writing_of table)
attributes = attributes_of table

abbrev pub family : Family BondXstats (Unit {0})
family = family_of_table table (λ c. attributes)
