-- Counters of `cake` (linux/pkt_sched.h, TCA_CAKE_STATS_*), by the table.
use Rattle.std.specs.Prelude.{◌≢◌, ℕ, ◌==◌, Bool}
use Rattle.std.proofs.lemmas.Bool.{ne_eqb}
use Rattle.npr_base.specs.declared.attribute_set.AttributeSet.TheVariants.{TcCakeStat as AtTcCakeStat, TcCakeTins as AtTcCakeTins}
use Rattle.npr_base.specs.Counts.{Counts}
use Rattle.npr_base.specs.Framing.{Item, number_of}
use Rattle.npr_base.specs.RowReading.{looks-none}
use Rattle.npr_base.specs.Tables.{EnumTable, table_of, others, ◌or◌, exactly, le32, le64, list_of, listed, row, signed32, value}
use Rattle.npr_base.specs.Tables.{refl, Reading, Family, writing_of, attributes_of, family_of_table}
use Rattle.npr_tc_values.specs.CakeTin as OfCakeTin
use Rattle.npr_tc_values.specs.contracts.cake_stat.TcCakeStat.{enum}
use Rattle.npr_tc_values.specs.declared.cake_stat.TcCakeStat.{TcCakeStat}

-- the table, in the order of the variants
abbrev pub table : EnumTable enum
table =
    table_of enum (
    row AtTcCakeStat 2 (exactly le64) (value TcCakeStat.CapacityEstimate64)  -- TCA_CAKE_STATS_CAPACITY_ESTIMATE64
    or row AtTcCakeStat 3 (exactly le32) (value TcCakeStat.MemoryLimit)  -- TCA_CAKE_STATS_MEMORY_LIMIT
    or row AtTcCakeStat 4 (exactly le32) (value TcCakeStat.MemoryUsed)  -- TCA_CAKE_STATS_MEMORY_USED
    or row AtTcCakeStat 5 (exactly le32) (value TcCakeStat.AvgNetoff)  -- TCA_CAKE_STATS_AVG_NETOFF
    or row AtTcCakeStat 6 (exactly le32) (value TcCakeStat.MinNetlen)  -- TCA_CAKE_STATS_MIN_NETLEN
    or row AtTcCakeStat 7 (exactly le32) (value TcCakeStat.MaxNetlen)  -- TCA_CAKE_STATS_MAX_NETLEN
    or row AtTcCakeStat 8 (exactly le32) (value TcCakeStat.MinAdjlen)  -- TCA_CAKE_STATS_MIN_ADJLEN
    or row AtTcCakeStat 9 (exactly le32) (value TcCakeStat.MaxAdjlen)  -- TCA_CAKE_STATS_MAX_ADJLEN
    or row AtTcCakeStat 10 (list_of AtTcCakeTins OfCakeTin.attributes) (listed OfCakeTin.family.meaning TcCakeStat.TinStats)  -- TCA_CAKE_STATS_TIN_STATS
    or row AtTcCakeStat 11 (exactly signed32) (value TcCakeStat.Deficit)  -- TCA_CAKE_STATS_DEFICIT
    or row AtTcCakeStat 12 (exactly le32) (value TcCakeStat.CobaltCount)  -- TCA_CAKE_STATS_COBALT_COUNT
    or row AtTcCakeStat 13 (exactly le32) (value TcCakeStat.Dropping)  -- TCA_CAKE_STATS_DROPPING
    or row AtTcCakeStat 14 (exactly signed32) (value TcCakeStat.DropNextUs)  -- TCA_CAKE_STATS_DROP_NEXT_US
    or row AtTcCakeStat 15 (exactly le32) (value TcCakeStat.PDrop)  -- TCA_CAKE_STATS_P_DROP
    or row AtTcCakeStat 16 (exactly signed32) (value TcCakeStat.BlueTimerUs)  -- TCA_CAKE_STATS_BLUE_TIMER_US
    or row AtTcCakeStat 17 (exactly le32) (value TcCakeStat.ActiveQueues)  -- TCA_CAKE_STATS_ACTIVE_QUEUES
    or others (value TcCakeStat.Other)) refl refl

-- the family
unfoldable pub attributes : Reading (writing_of table)
attributes = attributes_of table

abbrev pub family : Family TcCakeStat (Unit {0})
family = family_of_table table (λ c. attributes)

-- the number of those with attributes inside
abbrev pub is_list : ℕ → Bool
is_list number = number == 10

pub no_looks : (x : Item) (c : Counts) → (number_of x.kind ≢ 10) → attributes.looks.Takes x c c
unfolding attributes
no_looks x c o = looks-none is_list enum.parts table.rows refl x c (ne_eqb (number_of x.kind) 10 o)
