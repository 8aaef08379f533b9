-- The data of fq_codel (linux/pkt_sched.h, TCA_FQ_CODEL_*), by the table.
use Rattle.npr_base.specs.declared.attribute_set.AttributeSet.TheVariants.{TcQdiscFqCodel as AtFqCodel}
use Rattle.npr_base.specs.Tables.{EnumTable, table_of, row, others, ◌or◌, exactly, le32, byte, value, refl, Reading, Family, writing_of}
use Rattle.npr_base.specs.Tables.{attributes_of, family_of_table}
use Rattle.npr_tc_qdiscs.specs.contracts.fq_codel.TcQdiscFqCodelOption.{enum}
use Rattle.npr_tc_qdiscs.specs.declared.fq_codel.TcQdiscFqCodelOption.{TcQdiscFqCodelOption}

-- the table, in the order of the variants
abbrev pub table : EnumTable enum
table =
    table_of enum (
    row AtFqCodel 1 (exactly le32) (value TcQdiscFqCodelOption.Target)  -- TCA_FQ_CODEL_TARGET
    or row AtFqCodel 2 (exactly le32) (value TcQdiscFqCodelOption.Limit)  -- TCA_FQ_CODEL_LIMIT
    or row AtFqCodel 3 (exactly le32) (value TcQdiscFqCodelOption.Interval)  -- TCA_FQ_CODEL_INTERVAL
    or row AtFqCodel 4 (exactly le32) (value TcQdiscFqCodelOption.Ecn)  -- TCA_FQ_CODEL_ECN
    or row AtFqCodel 5 (exactly le32) (value TcQdiscFqCodelOption.Flows)  -- TCA_FQ_CODEL_FLOWS
    or row AtFqCodel 6 (exactly le32) (value TcQdiscFqCodelOption.Quantum)  -- TCA_FQ_CODEL_QUANTUM
    or row AtFqCodel 7 (exactly le32) (value TcQdiscFqCodelOption.CeThreshold)  -- TCA_FQ_CODEL_CE_THRESHOLD
    or row AtFqCodel 8 (exactly le32) (value TcQdiscFqCodelOption.DropBatchSize)  -- TCA_FQ_CODEL_DROP_BATCH_SIZE
    or row AtFqCodel 9 (exactly le32) (value TcQdiscFqCodelOption.MemoryLimit)  -- TCA_FQ_CODEL_MEMORY_LIMIT
    or row AtFqCodel 10 (exactly byte) (value TcQdiscFqCodelOption.CeThresholdSelector)  -- TCA_FQ_CODEL_CE_THRESHOLD_SELECTOR
    or row AtFqCodel 11 (exactly byte) (value TcQdiscFqCodelOption.CeThresholdMask)  -- TCA_FQ_CODEL_CE_THRESHOLD_MASK
    or others (value TcQdiscFqCodelOption.Other)) refl refl

-- the family
unfoldable pub attributes : Reading (writing_of table)
attributes = attributes_of table

abbrev pub family : Family TcQdiscFqCodelOption (Unit {0})
family = family_of_table table (λ c. attributes)
