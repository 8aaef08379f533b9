-- What is said of an action that makes checksums anew (linux/tc_act/tc_csum.h, TCA_CSUM_*), by the table.
use Rattle.npr_base.specs.declared.attribute_set.AttributeSet.TheVariants.{TcActionCsum as AtTcActionCsum}
use Rattle.npr_base.specs.Tables.{EnumTable, table_of, row, others, ◌or◌, leading, value, refl, Reading, Family, writing_of, attributes_of}
use Rattle.npr_base.specs.Tables.{family_of_table}
use Rattle.npr_tc_actions.specs.Csum.{csum}
use Rattle.npr_tc_actions.specs.Tcf.{tcf}
use Rattle.npr_tc_actions.specs.contracts.csum_option.TcActionCsumOption.{enum}
use Rattle.npr_tc_actions.specs.declared.csum_option.TcActionCsumOption.{TcActionCsumOption}

-- the table, in the order of the variants
abbrev pub table : EnumTable enum
table =
    table_of enum (
    row AtTcActionCsum 1 (leading csum) (value TcActionCsumOption.Parms)  -- TCA_CSUM_PARMS
    or row AtTcActionCsum 2 (leading tcf) (value TcActionCsumOption.Tm)  -- TCA_CSUM_TM
    or others (value TcActionCsumOption.Other)) refl refl

-- the family
unfoldable pub attributes : Reading (writing_of table)
attributes = attributes_of table

abbrev pub family : Family TcActionCsumOption (Unit {0})
family = family_of_table table (λ c. attributes)
