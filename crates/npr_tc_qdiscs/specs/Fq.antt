-- The data of `fq` (linux/pkt_sched.h, TCA_FQ_*), by the table.
use Rattle.npr_base.specs.declared.attribute_set.AttributeSet.TheVariants.{TcQdiscFq as AtTcQdiscFq}
use Rattle.npr_base.specs.Tables.{EnumTable, table_of, row, others, ◌or◌, byte, exactly, le32, leading, seen, value, refl, Reading, Family}
use Rattle.npr_base.specs.Tables.{writing_of, attributes_of, family_of_table}
use Rattle.npr_tc_qdiscs.specs.FqWeights.{fq_weights, fq_weights_of}
use Rattle.npr_tc_qdiscs.specs.PrioQopt.{prio_qopt}
use Rattle.npr_tc_qdiscs.specs.contracts.fq.TcQdiscFqOption.{enum}
use Rattle.npr_tc_qdiscs.specs.declared.fq.TcQdiscFqOption.{TcQdiscFqOption}

-- the table, in the order of the variants
abbrev pub table : EnumTable enum
table =
    table_of enum (
    row AtTcQdiscFq 1 (exactly le32) (value TcQdiscFqOption.Plimit)  -- TCA_FQ_PLIMIT
    or row AtTcQdiscFq 2 (exactly le32) (value TcQdiscFqOption.FlowPlimit)  -- TCA_FQ_FLOW_PLIMIT
    or row AtTcQdiscFq 3 (exactly le32) (value TcQdiscFqOption.Quantum)  -- TCA_FQ_QUANTUM
    or row AtTcQdiscFq 4 (exactly le32) (value TcQdiscFqOption.InitialQuantum)  -- TCA_FQ_INITIAL_QUANTUM
    or row AtTcQdiscFq 5 (exactly le32) (value TcQdiscFqOption.RateEnable)  -- TCA_FQ_RATE_ENABLE
    or row AtTcQdiscFq 6 (exactly le32) (value TcQdiscFqOption.FlowDefaultRate)  -- TCA_FQ_FLOW_DEFAULT_RATE
    or row AtTcQdiscFq 7 (exactly le32) (value TcQdiscFqOption.FlowMaxRate)  -- TCA_FQ_FLOW_MAX_RATE
    or row AtTcQdiscFq 8 (exactly le32) (value TcQdiscFqOption.BucketsLog)  -- TCA_FQ_BUCKETS_LOG
    or row AtTcQdiscFq 9 (exactly le32) (value TcQdiscFqOption.FlowRefillDelay)  -- TCA_FQ_FLOW_REFILL_DELAY
    or row AtTcQdiscFq 10 (exactly le32) (value TcQdiscFqOption.OrphanMask)  -- TCA_FQ_ORPHAN_MASK
    or row AtTcQdiscFq 11 (exactly le32) (value TcQdiscFqOption.LowRateThreshold)  -- TCA_FQ_LOW_RATE_THRESHOLD
    or row AtTcQdiscFq 12 (exactly le32) (value TcQdiscFqOption.CeThreshold)  -- TCA_FQ_CE_THRESHOLD
    or row AtTcQdiscFq 13 (exactly le32) (value TcQdiscFqOption.TimerSlack)  -- TCA_FQ_TIMER_SLACK
    or row AtTcQdiscFq 14 (exactly le32) (value TcQdiscFqOption.Horizon)  -- TCA_FQ_HORIZON
    or row AtTcQdiscFq 15 (exactly byte) (value TcQdiscFqOption.HorizonDrop)  -- TCA_FQ_HORIZON_DROP
    or row AtTcQdiscFq 16 (leading prio_qopt) (value TcQdiscFqOption.Priomap)  -- TCA_FQ_PRIOMAP
    or row AtTcQdiscFq 17 fq_weights (seen fq_weights_of TcQdiscFqOption.Weights)  -- TCA_FQ_WEIGHTS
    or row AtTcQdiscFq 18 (exactly le32) (value TcQdiscFqOption.OffloadHorizon)  -- TCA_FQ_OFFLOAD_HORIZON
    or others (value TcQdiscFqOption.Other)) refl refl

-- the family
unfoldable pub attributes : Reading (writing_of table)
attributes = attributes_of table

abbrev pub family : Family TcQdiscFqOption (Unit {0})
family = family_of_table table (λ c. attributes)
