-- What is said of an action that runs a program (linux/tc_act/tc_bpf.h, TCA_ACT_BPF_*), by the table.
use Rattle.npr_base.specs.declared.attribute_set.AttributeSet.TheVariants.{TcActionBpf as AtTcActionBpf}
use Rattle.npr_base.specs.Tables.{EnumTable, table_of, row, others, ◌or◌, exactly, items, le16, le32, leading, name, raw, text, value, refl, Reading}
use Rattle.npr_base.specs.Tables.{Family, writing_of, attributes_of, family_of_table}
use Rattle.npr_tc_actions.specs.BpfInstruction.{instructions}
use Rattle.npr_tc_actions.specs.Generic.{generic}
use Rattle.npr_tc_actions.specs.Tcf.{tcf}
use Rattle.npr_tc_actions.specs.contracts.bpf_option.TcActionBpfOption.{enum}
use Rattle.npr_tc_actions.specs.declared.bpf_option.TcActionBpfOption.{TcActionBpfOption}

-- the table, in the order of the variants
abbrev pub table : EnumTable enum
table =
    table_of enum (
    row AtTcActionBpf 1 (leading tcf) (value TcActionBpfOption.Tm)  -- TCA_ACT_BPF_TM
    or row AtTcActionBpf 2 (leading generic) (value TcActionBpfOption.Parms)  -- TCA_ACT_BPF_PARMS
    or row AtTcActionBpf 3 (exactly le16) (value TcActionBpfOption.OpsLen)  -- TCA_ACT_BPF_OPS_LEN
    or row AtTcActionBpf 4 instructions (items TcActionBpfOption.Ops)  -- TCA_ACT_BPF_OPS
    or row AtTcActionBpf 5 (exactly le32) (value TcActionBpfOption.Fd)  -- TCA_ACT_BPF_FD
    or row AtTcActionBpf 6 name (text TcActionBpfOption.Name)  -- TCA_ACT_BPF_NAME
    or row AtTcActionBpf 8 raw (items TcActionBpfOption.Tag)  -- TCA_ACT_BPF_TAG
    or row AtTcActionBpf 9 (exactly le32) (value TcActionBpfOption.Id)  -- TCA_ACT_BPF_ID
    or others (value TcActionBpfOption.Other)) refl refl

-- the family
unfoldable pub attributes : Reading (writing_of table)
attributes = attributes_of table

abbrev pub family : Family TcActionBpfOption (Unit {0})
family = family_of_table table (λ c. attributes)
