-- What is said of an action that holds packets to a rate (linux/pkt_cls.h, TCA_POLICE_*), by the table.
use Rattle.npr_base.specs.declared.attribute_set.AttributeSet.TheVariants.{TcActionPolice as AtTcActionPolice}
use Rattle.npr_base.specs.Tables.{EnumTable, table_of, row, others, ◌or◌, exactly, items, le32, le64, leading, raw, value, refl, Reading, Family}
use Rattle.npr_base.specs.Tables.{writing_of, attributes_of, family_of_table}
use Rattle.npr_tc_actions.specs.ActionType.{action_type}
use Rattle.npr_tc_actions.specs.Police.{police}
use Rattle.npr_tc_actions.specs.Tcf.{tcf}
use Rattle.npr_tc_actions.specs.contracts.police_option.TcActionPoliceOption.{enum}
use Rattle.npr_tc_actions.specs.declared.police_option.TcActionPoliceOption.{TcActionPoliceOption}

-- the table, in the order of the variants
abbrev pub table : EnumTable enum
table =
    table_of enum (
    row AtTcActionPolice 1 (leading police) (value TcActionPoliceOption.Tbf)  -- TCA_POLICE_TBF
    or row AtTcActionPolice 2 raw (items TcActionPoliceOption.Rate)  -- TCA_POLICE_RATE
    or row AtTcActionPolice 3 raw (items TcActionPoliceOption.Peakrate)  -- TCA_POLICE_PEAKRATE
    or row AtTcActionPolice 4 (exactly le32) (value TcActionPoliceOption.Avrate)  -- TCA_POLICE_AVRATE
    or row AtTcActionPolice 5 (exactly action_type) (value TcActionPoliceOption.Result)  -- TCA_POLICE_RESULT
    or row AtTcActionPolice 6 (leading tcf) (value TcActionPoliceOption.Tm)  -- TCA_POLICE_TM
    or row AtTcActionPolice 8 (exactly le64) (value TcActionPoliceOption.Rate64)  -- TCA_POLICE_RATE64
    or row AtTcActionPolice 9 (exactly le64) (value TcActionPoliceOption.Peakrate64)  -- TCA_POLICE_PEAKRATE64
    or row AtTcActionPolice 10 (exactly le64) (value TcActionPoliceOption.Pktrate64)  -- TCA_POLICE_PKTRATE64
    or row AtTcActionPolice 11 (exactly le64) (value TcActionPoliceOption.Pktburst64)  -- TCA_POLICE_PKTBURST64
    or others (value TcActionPoliceOption.Other)) refl refl

-- the family
unfoldable pub attributes : Reading (writing_of table)
attributes = attributes_of table

abbrev pub family : Family TcActionPoliceOption (Unit {0})
family = family_of_table table (λ c. attributes)
