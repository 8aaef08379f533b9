-- The data of `tbf` (linux/pkt_sched.h, TCA_TBF_*), by the table.
use Rattle.npr_base.specs.declared.attribute_set.AttributeSet.TheVariants.{TcQdiscTbf as AtTcQdiscTbf}
use Rattle.npr_base.specs.Tables.{EnumTable, table_of, row, others, ◌or◌, exactly, items, le32, le64, leading, raw, value, refl, Reading, Family}
use Rattle.npr_base.specs.Tables.{writing_of, attributes_of, family_of_table}
use Rattle.npr_tc_qdiscs.specs.TbfQopt.{tbf_qopt}
use Rattle.npr_tc_qdiscs.specs.contracts.tbf.TcQdiscTbfOption.{enum}
use Rattle.npr_tc_qdiscs.specs.declared.tbf.TcQdiscTbfOption.{TcQdiscTbfOption}

-- the table, in the order of the variants
abbrev pub table : EnumTable enum
table =
    table_of enum (
    row AtTcQdiscTbf 1 (leading tbf_qopt) (value TcQdiscTbfOption.Parms)  -- TCA_TBF_PARMS
    or row AtTcQdiscTbf 2 raw (items TcQdiscTbfOption.Rtab)  -- TCA_TBF_RTAB
    or row AtTcQdiscTbf 3 raw (items TcQdiscTbfOption.Ptab)  -- TCA_TBF_PTAB
    or row AtTcQdiscTbf 4 (exactly le64) (value TcQdiscTbfOption.Rate64)  -- TCA_TBF_RATE64
    or row AtTcQdiscTbf 5 (exactly le64) (value TcQdiscTbfOption.Prate64)  -- TCA_TBF_PRATE64
    or row AtTcQdiscTbf 6 (exactly le32) (value TcQdiscTbfOption.Burst)  -- TCA_TBF_BURST
    or row AtTcQdiscTbf 7 (exactly le32) (value TcQdiscTbfOption.Pburst)  -- TCA_TBF_PBURST
    or others (value TcQdiscTbfOption.Other)) refl refl

-- the family
unfoldable pub attributes : Reading (writing_of table)
attributes = attributes_of table

abbrev pub family : Family TcQdiscTbfOption (Unit {0})
family = family_of_table table (λ c. attributes)
