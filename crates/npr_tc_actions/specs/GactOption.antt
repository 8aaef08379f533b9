-- What is said of an action that lets packets through or drops them (linux/tc_act/tc_gact.h, TCA_GACT_*), by the table.
use Rattle.npr_base.specs.declared.attribute_set.AttributeSet.TheVariants.{TcActionGact as AtTcActionGact}
use Rattle.npr_base.specs.Tables.{EnumTable, table_of, row, others, ◌or◌, leading, value, refl, Reading, Family, writing_of, attributes_of}
use Rattle.npr_base.specs.Tables.{family_of_table}
use Rattle.npr_tc_actions.specs.GactProbability.{gact_probability}
use Rattle.npr_tc_actions.specs.Generic.{generic}
use Rattle.npr_tc_actions.specs.Tcf.{tcf}
use Rattle.npr_tc_actions.specs.contracts.gact_option.TcActionGactOption.{enum}
use Rattle.npr_tc_actions.specs.declared.gact_option.TcActionGactOption.{TcActionGactOption}

-- the table, in the order of the variants
abbrev pub table : EnumTable enum
table =
    table_of enum (
    row AtTcActionGact 1 (leading tcf) (value TcActionGactOption.Tm)  -- TCA_GACT_TM
    or row AtTcActionGact 2 (leading generic) (value TcActionGactOption.Parms)  -- TCA_GACT_PARMS
    or row AtTcActionGact 3 (leading gact_probability) (value TcActionGactOption.Prob)  -- TCA_GACT_PROB
    or others (value TcActionGactOption.Other)) refl refl

-- the family
unfoldable pub attributes : Reading (writing_of table)
attributes = attributes_of table

abbrev pub family : Family TcActionGactOption (Unit {0})
family = family_of_table table (λ c. attributes)
