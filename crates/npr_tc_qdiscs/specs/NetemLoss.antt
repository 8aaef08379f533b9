-- The loss of packets by `netem` (linux/pkt_sched.h, NETEM_LOSS_*), by the table.
use Rattle.npr_base.specs.declared.attribute_set.AttributeSet.TheVariants.{TcNetemLoss as AtTcNetemLoss}
use Rattle.npr_base.specs.Tables.{EnumTable, table_of, row, others, ◌or◌, leading, value, refl, Reading, Family, writing_of, attributes_of}
use Rattle.npr_base.specs.Tables.{family_of_table}
use Rattle.npr_tc_qdiscs.specs.NetemGeModel.{netem_ge_model}
use Rattle.npr_tc_qdiscs.specs.NetemGiModel.{netem_gi_model}
use Rattle.npr_tc_qdiscs.specs.contracts.netem_loss.TcNetemLoss.{enum}
use Rattle.npr_tc_qdiscs.specs.declared.netem_loss.TcNetemLoss.{TcNetemLoss}

-- the table, in the order of the variants
abbrev pub table : EnumTable enum
table =
    table_of enum (
    row AtTcNetemLoss 1 (leading netem_gi_model) (value TcNetemLoss.Gi)  -- NETEM_LOSS_GI
    or row AtTcNetemLoss 2 (leading netem_ge_model) (value TcNetemLoss.Ge)  -- NETEM_LOSS_GE
    or others (value TcNetemLoss.Other)) refl refl

-- the family
unfoldable pub attributes : Reading (writing_of table)
attributes = attributes_of table

abbrev pub family : Family TcNetemLoss (Unit {0})
family = family_of_table table (λ c. attributes)
