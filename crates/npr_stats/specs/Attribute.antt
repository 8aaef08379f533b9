-- The attributes of a message of statistics (linux/if_link.h, IFLA_STATS_*), by the table.
use Rattle.npr_base.specs.declared.attribute_set.AttributeSet.TheVariants.{LinkXstats as AtLinkXstats, OffloadXstats as AtXstats, Stats as AtStats}
use Rattle.npr_base.specs.declared.attribute_set.AttributeSet.TheVariants.{StatsAfSpec as AtStatsAfSpec}
use Rattle.npr_base.specs.Tables.{EnumTable, table_of, row, others, ◌or◌, list_of, listed, seen, value, refl, Reading, Family, writing_of}
use Rattle.npr_base.specs.Tables.{attributes_of, family_of_table}
use Rattle.npr_base.specs.Words.{words64}
use Rattle.npr_link_statistics.specs.Grown.{grown, parts}
use Rattle.npr_link_statistics.specs.Names.{stats64}
use Rattle.npr_stats.specs.AfSpec as OfAfSpec
use Rattle.npr_stats.specs.LinkXstats as OfLink
use Rattle.npr_stats.specs.OffloadXstats as OfXstats
use Rattle.npr_stats.specs.contracts.attribute.StatsAttribute.{enum}
use Rattle.npr_stats.specs.declared.attribute.StatsAttribute.{StatsAttribute}

-- the table, in the order of the variants
abbrev pub table : EnumTable enum
table =
    table_of enum (
    row AtStats 1 (grown words64 stats64) (seen (parts stats64) StatsAttribute.Link64)  -- IFLA_STATS_LINK_64
    or row AtStats 2 (list_of AtLinkXstats OfLink.attributes) (listed OfLink.family.meaning StatsAttribute.LinkXstats)  -- IFLA_STATS_LINK_XSTATS
    or row AtStats 3 (list_of AtLinkXstats OfLink.attributes) (listed OfLink.family.meaning StatsAttribute.LinkXstatsSlave)  -- IFLA_STATS_LINK_XSTATS_SLAVE
    or row AtStats 4 (list_of AtXstats OfXstats.attributes) (listed OfXstats.family.meaning StatsAttribute.LinkOffloadXstats)  -- IFLA_STATS_LINK_OFFLOAD_XSTATS
    or row AtStats 5 (list_of AtStatsAfSpec OfAfSpec.attributes) (listed OfAfSpec.family.meaning StatsAttribute.AfSpec)  -- IFLA_STATS_AF_SPEC
    or others (value StatsAttribute.Other)) refl refl

-- the family
abbrev pub attributes : Reading (writing_of table)
attributes = attributes_of table

abbrev pub family : Family StatsAttribute (Unit {0})
family = family_of_table table (λ c. attributes)
