-- What MPLS counts (linux/mpls.h, MPLS_STATS_*), by the table.
use Rattle.npr_base.specs.declared.attribute_set.AttributeSet.TheVariants.{MplsStats as AtMplsStats}
use Rattle.npr_base.specs.Tables.{EnumTable, table_of, row, others, ◌or◌, leading, value, refl, Reading, Family, writing_of}
use Rattle.npr_base.specs.Tables.{attributes_of, family_of_table}
use Rattle.npr_stats.specs.MplsLinkStats.{mpls_link_stats}
use Rattle.npr_stats.specs.contracts.mpls_stats.MplsStats.{enum}
use Rattle.npr_stats.specs.declared.mpls_stats.MplsStats.{MplsStats}

-- the table, in the order of the variants
abbrev pub table : EnumTable enum
table =
    table_of enum (
    row AtMplsStats 1 (leading mpls_link_stats) (value MplsStats.Link)  -- MPLS_STATS_LINK
    or others (value MplsStats.Other)) refl refl

-- the family
unfoldable pub attributes : Reading (writing_of table)
attributes = attributes_of table

abbrev pub family : Family MplsStats (Unit {0})
family = family_of_table table (λ c. attributes)
