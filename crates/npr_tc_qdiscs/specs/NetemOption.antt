-- The attributes of `netem` (linux/pkt_sched.h, TCA_NETEM_*), by the table.
use Rattle.npr_base.specs.declared.attribute_set.AttributeSet.TheVariants.{TcQdiscNetem as AtTcQdiscNetem}
use Rattle.npr_base.specs.Tables.{EnumTable, table_of, row, others, ◌or◌, exactly, items, le32, le64, leading, list_of, listed, raw, signed64, value}
use Rattle.npr_base.specs.Tables.{refl, Reading, Family, writing_of, attributes_of, family_of_table}
use Rattle.npr_base.specs.declared.attribute_set.AttributeSet.TheVariants.{TcNetemLoss as AtTcNetemLoss}
use Rattle.npr_tc_qdiscs.specs.NetemCorr.{netem_corr}
use Rattle.npr_tc_qdiscs.specs.NetemCorrupt.{netem_corrupt}
use Rattle.npr_tc_qdiscs.specs.NetemLoss as OfNetemLoss
use Rattle.npr_tc_qdiscs.specs.NetemRate.{netem_rate}
use Rattle.npr_tc_qdiscs.specs.NetemReorder.{netem_reorder}
use Rattle.npr_tc_qdiscs.specs.NetemSlot.{netem_slot}
use Rattle.npr_tc_qdiscs.specs.contracts.netem_option.TcQdiscNetemOption.{enum}
use Rattle.npr_tc_qdiscs.specs.declared.netem_option.TcQdiscNetemOption.{TcQdiscNetemOption}

-- the table, in the order of the variants
abbrev pub table : EnumTable enum
table =
    table_of enum (
    row AtTcQdiscNetem 1 (leading netem_corr) (value TcQdiscNetemOption.Corr)  -- TCA_NETEM_CORR
    or row AtTcQdiscNetem 2 raw (items TcQdiscNetemOption.DelayDist)  -- TCA_NETEM_DELAY_DIST
    or row AtTcQdiscNetem 3 (leading netem_reorder) (value TcQdiscNetemOption.Reorder)  -- TCA_NETEM_REORDER
    or row AtTcQdiscNetem 4 (leading netem_corrupt) (value TcQdiscNetemOption.Corrupt)  -- TCA_NETEM_CORRUPT
    or row AtTcQdiscNetem 5 (list_of AtTcNetemLoss OfNetemLoss.attributes) (listed OfNetemLoss.family.meaning TcQdiscNetemOption.Loss)  -- TCA_NETEM_LOSS
    or row AtTcQdiscNetem 6 (leading netem_rate) (value TcQdiscNetemOption.Rate)  -- TCA_NETEM_RATE
    or row AtTcQdiscNetem 7 (exactly le32) (value TcQdiscNetemOption.Ecn)  -- TCA_NETEM_ECN
    or row AtTcQdiscNetem 8 (exactly le64) (value TcQdiscNetemOption.Rate64)  -- TCA_NETEM_RATE64
    or row AtTcQdiscNetem 10 (exactly signed64) (value TcQdiscNetemOption.Latency64)  -- TCA_NETEM_LATENCY64
    or row AtTcQdiscNetem 11 (exactly signed64) (value TcQdiscNetemOption.Jitter64)  -- TCA_NETEM_JITTER64
    or row AtTcQdiscNetem 12 (leading netem_slot) (value TcQdiscNetemOption.Slot)  -- TCA_NETEM_SLOT
    or row AtTcQdiscNetem 13 raw (items TcQdiscNetemOption.SlotDist)  -- TCA_NETEM_SLOT_DIST
    or row AtTcQdiscNetem 14 (exactly le64) (value TcQdiscNetemOption.PrngSeed)  -- TCA_NETEM_PRNG_SEED
    or others (value TcQdiscNetemOption.Other)) refl refl

-- the family
unfoldable pub attributes : Reading (writing_of table)
attributes = attributes_of table

abbrev pub family : Family TcQdiscNetemOption (Unit {0})
family = family_of_table table (λ c. attributes)
