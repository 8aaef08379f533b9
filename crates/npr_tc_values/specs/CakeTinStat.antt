-- Counters of a tin of `cake` (linux/pkt_sched.h, TCA_CAKE_TIN_STATS_*), by the table.
use Rattle.std.specs.Prelude.{false}
use Rattle.npr_base.specs.declared.attribute_set.AttributeSet.TheVariants.{TcCakeTinStat as AtTcCakeTinStat}
use Rattle.npr_base.specs.Counts.{Counts}
use Rattle.npr_base.specs.Framing.{Item}
use Rattle.npr_base.specs.RowReading.{looks-none}
use Rattle.npr_base.specs.Tables.{EnumTable, table_of, others, ◌or◌, exactly, le32, le64, row, value}
use Rattle.npr_base.specs.Tables.{refl, Reading, Family, writing_of, attributes_of, family_of_table}
use Rattle.npr_tc_values.specs.contracts.cake_tin_stat.TcCakeTinStat.{enum}
use Rattle.npr_tc_values.specs.declared.cake_tin_stat.TcCakeTinStat.{TcCakeTinStat}

-- the table, in the order of the variants
abbrev pub table : EnumTable enum
table =
    table_of enum (
    row AtTcCakeTinStat 2 (exactly le32) (value TcCakeTinStat.SentPackets)  -- TCA_CAKE_TIN_STATS_SENT_PACKETS
    or row AtTcCakeTinStat 3 (exactly le64) (value TcCakeTinStat.SentBytes64)  -- TCA_CAKE_TIN_STATS_SENT_BYTES64
    or row AtTcCakeTinStat 4 (exactly le32) (value TcCakeTinStat.DroppedPackets)  -- TCA_CAKE_TIN_STATS_DROPPED_PACKETS
    or row AtTcCakeTinStat 5 (exactly le64) (value TcCakeTinStat.DroppedBytes64)  -- TCA_CAKE_TIN_STATS_DROPPED_BYTES64
    or row AtTcCakeTinStat 6 (exactly le32) (value TcCakeTinStat.AcksDroppedPackets)  -- TCA_CAKE_TIN_STATS_ACKS_DROPPED_PACKETS
    or row AtTcCakeTinStat 7 (exactly le64) (value TcCakeTinStat.AcksDroppedBytes64)  -- TCA_CAKE_TIN_STATS_ACKS_DROPPED_BYTES64
    or row AtTcCakeTinStat 8 (exactly le32) (value TcCakeTinStat.EcnMarkedPackets)  -- TCA_CAKE_TIN_STATS_ECN_MARKED_PACKETS
    or row AtTcCakeTinStat 9 (exactly le64) (value TcCakeTinStat.EcnMarkedBytes64)  -- TCA_CAKE_TIN_STATS_ECN_MARKED_BYTES64
    or row AtTcCakeTinStat 10 (exactly le32) (value TcCakeTinStat.BacklogPackets)  -- TCA_CAKE_TIN_STATS_BACKLOG_PACKETS
    or row AtTcCakeTinStat 11 (exactly le32) (value TcCakeTinStat.BacklogBytes)  -- TCA_CAKE_TIN_STATS_BACKLOG_BYTES
    or row AtTcCakeTinStat 12 (exactly le64) (value TcCakeTinStat.ThresholdRate64)  -- TCA_CAKE_TIN_STATS_THRESHOLD_RATE64
    or row AtTcCakeTinStat 13 (exactly le32) (value TcCakeTinStat.TargetUs)  -- TCA_CAKE_TIN_STATS_TARGET_US
    or row AtTcCakeTinStat 14 (exactly le32) (value TcCakeTinStat.IntervalUs)  -- TCA_CAKE_TIN_STATS_INTERVAL_US
    or row AtTcCakeTinStat 15 (exactly le32) (value TcCakeTinStat.WayIndirectHits)  -- TCA_CAKE_TIN_STATS_WAY_INDIRECT_HITS
    or row AtTcCakeTinStat 16 (exactly le32) (value TcCakeTinStat.WayMisses)  -- TCA_CAKE_TIN_STATS_WAY_MISSES
    or row AtTcCakeTinStat 17 (exactly le32) (value TcCakeTinStat.WayCollisions)  -- TCA_CAKE_TIN_STATS_WAY_COLLISIONS
    or row AtTcCakeTinStat 18 (exactly le32) (value TcCakeTinStat.PeakDelayUs)  -- TCA_CAKE_TIN_STATS_PEAK_DELAY_US
    or row AtTcCakeTinStat 19 (exactly le32) (value TcCakeTinStat.AvgDelayUs)  -- TCA_CAKE_TIN_STATS_AVG_DELAY_US
    or row AtTcCakeTinStat 20 (exactly le32) (value TcCakeTinStat.BaseDelayUs)  -- TCA_CAKE_TIN_STATS_BASE_DELAY_US
    or row AtTcCakeTinStat 21 (exactly le32) (value TcCakeTinStat.SparseFlows)  -- TCA_CAKE_TIN_STATS_SPARSE_FLOWS
    or row AtTcCakeTinStat 22 (exactly le32) (value TcCakeTinStat.BulkFlows)  -- TCA_CAKE_TIN_STATS_BULK_FLOWS
    or row AtTcCakeTinStat 23 (exactly le32) (value TcCakeTinStat.UnresponsiveFlows)  -- TCA_CAKE_TIN_STATS_UNRESPONSIVE_FLOWS
    or row AtTcCakeTinStat 24 (exactly le32) (value TcCakeTinStat.MaxSkblen)  -- TCA_CAKE_TIN_STATS_MAX_SKBLEN
    or row AtTcCakeTinStat 25 (exactly le32) (value TcCakeTinStat.FlowQuantum)  -- TCA_CAKE_TIN_STATS_FLOW_QUANTUM
    or others (value TcCakeTinStat.Other)) refl refl

-- the family
unfoldable pub attributes : Reading (writing_of table)
attributes = attributes_of table

abbrev pub family : Family TcCakeTinStat (Unit {0})
family = family_of_table table (λ c. attributes)

-- none has attributes inside
pub no_looks : (x : Item) (c : Counts) → attributes.looks.Takes x c c
unfolding attributes
no_looks x c = looks-none (λ k. false) enum.parts table.rows refl x c refl
