-- A counter of a virtual function (linux/if_link.h, IFLA_VF_STATS_*), by the table.
use Rattle.npr_base.specs.declared.attribute_set.AttributeSet.TheVariants.{VfStats as AtVfStats}
use Rattle.npr_base.specs.Tables.{EnumTable, table_of, row, others, ◌or◌, exactly, le64, value}
use Rattle.npr_base.specs.Tables.{refl, Reading, Family, writing_of, attributes_of, family_of_table}
use Rattle.npr_link_functions.specs.contracts.vf_stats.VfStats.{enum}
use Rattle.npr_link_functions.specs.declared.vf_stats.VfStats.{VfStats}

-- the table, in the order of the variants
abbrev pub table : EnumTable enum
table =
    table_of enum (
    row AtVfStats 0 (exactly le64) (value VfStats.RxPackets)  -- IFLA_VF_STATS_RX_PACKETS
    or row AtVfStats 1 (exactly le64) (value VfStats.TxPackets)  -- IFLA_VF_STATS_TX_PACKETS
    or row AtVfStats 2 (exactly le64) (value VfStats.RxBytes)  -- IFLA_VF_STATS_RX_BYTES
    or row AtVfStats 3 (exactly le64) (value VfStats.TxBytes)  -- IFLA_VF_STATS_TX_BYTES
    or row AtVfStats 4 (exactly le64) (value VfStats.Broadcast)  -- IFLA_VF_STATS_BROADCAST
    or row AtVfStats 5 (exactly le64) (value VfStats.Multicast)  -- IFLA_VF_STATS_MULTICAST
    or row AtVfStats 7 (exactly le64) (value VfStats.RxDropped)  -- IFLA_VF_STATS_RX_DROPPED
    or row AtVfStats 8 (exactly le64) (value VfStats.TxDropped)  -- IFLA_VF_STATS_TX_DROPPED
    or others (value VfStats.Other)) refl refl

-- the family
unfoldable pub attributes : Reading (writing_of table)
attributes = attributes_of table

abbrev pub family : Family VfStats (Unit {0})
family = family_of_table table (λ c. attributes)
