-- What is said of an action that changes addresses (linux/tc_act/tc_nat.h, TCA_NAT_*), by the table.
use Rattle.npr_base.specs.declared.attribute_set.AttributeSet.TheVariants.{TcActionNat as AtTcActionNat}
use Rattle.npr_base.specs.Tables.{EnumTable, table_of, row, others, ◌or◌, leading, value, refl, Reading, Family, writing_of}
use Rattle.npr_base.specs.Tables.{attributes_of, family_of_table}
use Rattle.npr_tc_actions.specs.Nat.{nat}
use Rattle.npr_tc_actions.specs.Tcf.{tcf}
use Rattle.npr_tc_actions.specs.contracts.nat_option.TcActionNatOption.{enum}
use Rattle.npr_tc_actions.specs.declared.nat_option.TcActionNatOption.{TcActionNatOption}

-- the table, in the order of the variants
abbrev pub table : EnumTable enum
table =
    table_of enum (
    row AtTcActionNat 1 (leading nat) (value TcActionNatOption.Parms)  -- TCA_NAT_PARMS
    or row AtTcActionNat 2 (leading tcf) (value TcActionNatOption.Tm)  -- TCA_NAT_TM
    or others (value TcActionNatOption.Other)) refl refl

-- the family
unfoldable pub attributes : Reading (writing_of table)
attributes = attributes_of table

abbrev pub family : Family TcActionNatOption (Unit {0})
family = family_of_table table (λ c. attributes)
