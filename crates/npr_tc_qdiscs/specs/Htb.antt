-- The data of `htb` (linux/pkt_sched.h, TCA_HTB_*), by the table.
use Rattle.npr_base.specs.declared.attribute_set.AttributeSet.TheVariants.{TcQdiscHtb as AtTcQdiscHtb}
use Rattle.npr_base.specs.Tables.{EnumTable, table_of, row, others, ◌or◌, dropped, exactly, items, le32, le64, leading, nothing, raw, value, refl}
use Rattle.npr_base.specs.Tables.{Reading, Family, writing_of, attributes_of, family_of_table}
use Rattle.npr_tc_qdiscs.specs.HtbGlob.{htb_glob}
use Rattle.npr_tc_qdiscs.specs.HtbOpt.{htb_opt}
use Rattle.npr_tc_qdiscs.specs.contracts.htb.TcQdiscHtbOption.{enum}
use Rattle.npr_tc_qdiscs.specs.declared.htb.TcQdiscHtbOption.{TcQdiscHtbOption}

-- the table, in the order of the variants
abbrev pub table : EnumTable enum
table =
    table_of enum (
    row AtTcQdiscHtb 1 (leading htb_opt) (value TcQdiscHtbOption.Parms)  -- TCA_HTB_PARMS
    or row AtTcQdiscHtb 2 (leading htb_glob) (value TcQdiscHtbOption.Init)  -- TCA_HTB_INIT
    or row AtTcQdiscHtb 3 raw (items TcQdiscHtbOption.Ctab)  -- TCA_HTB_CTAB
    or row AtTcQdiscHtb 4 raw (items TcQdiscHtbOption.Rtab)  -- TCA_HTB_RTAB
    or row AtTcQdiscHtb 5 (exactly le32) (value TcQdiscHtbOption.DirectQlen)  -- TCA_HTB_DIRECT_QLEN
    or row AtTcQdiscHtb 6 (exactly le64) (value TcQdiscHtbOption.Rate64)  -- TCA_HTB_RATE64
    or row AtTcQdiscHtb 7 (exactly le64) (value TcQdiscHtbOption.Ceil64)  -- TCA_HTB_CEIL64
    or row AtTcQdiscHtb 9 dropped (nothing TcQdiscHtbOption.Offload)  -- TCA_HTB_OFFLOAD
    or others (value TcQdiscHtbOption.Other)) refl refl

-- the family
unfoldable pub attributes : Reading (writing_of table)
attributes = attributes_of table

abbrev pub family : Family TcQdiscHtbOption (Unit {0})
family = family_of_table table (λ c. attributes)
