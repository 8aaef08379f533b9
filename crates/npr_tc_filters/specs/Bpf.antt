-- The data of the filter `bpf` (linux/pkt_cls.h, TCA_BPF_*), by the table.
use Rattle.npr_base.specs.declared.attribute_set.AttributeSet.TheVariants.{TcFilterBpf as AtTcFilterBpf}
use Rattle.npr_base.specs.Tables.{EnumTable, table_of, row, others, ◌or◌, exactly, items, le16, le32, list_of, listed, name, raw, text, value, refl}
use Rattle.npr_base.specs.Tables.{Reading, Family, writing_of, attributes_of, family_of_table}
use Rattle.npr_base.specs.declared.attribute_set.AttributeSet.TheVariants.{TcActionPolice as AtPolice, TcActions as AtActions}
use Rattle.npr_tc_actions.specs.Action as OfAction
use Rattle.npr_tc_actions.specs.BpfInstruction.{instructions}
use Rattle.npr_tc_actions.specs.PoliceOption as OfPolice
use Rattle.npr_tc_values.specs.Handle.{handle}
use Rattle.npr_tc_filters.specs.U32OptionFlags.{u32_option_flags}
use Rattle.npr_tc_filters.specs.contracts.bpf.TcFilterBpfOption.{enum}
use Rattle.npr_tc_filters.specs.declared.bpf.TcFilterBpfOption.{TcFilterBpfOption}

-- the table, in the order of the variants
abbrev pub table : EnumTable enum
table =
    table_of enum (
    row AtTcFilterBpf 1 (list_of AtActions OfAction.attributes) (listed OfAction.family.meaning TcFilterBpfOption.Action)  -- TCA_BPF_ACT
    or row AtTcFilterBpf 2 (list_of AtPolice OfPolice.attributes) (listed OfPolice.family.meaning TcFilterBpfOption.Police)  -- TCA_BPF_POLICE
    or row AtTcFilterBpf 3 (exactly handle) (value TcFilterBpfOption.ClassId)  -- TCA_BPF_CLASSID
    or row AtTcFilterBpf 4 (exactly le16) (value TcFilterBpfOption.OpsLen)  -- TCA_BPF_OPS_LEN
    or row AtTcFilterBpf 5 instructions (items TcFilterBpfOption.Ops)  -- TCA_BPF_OPS
    or row AtTcFilterBpf 6 (exactly le32) (value TcFilterBpfOption.Fd)  -- TCA_BPF_FD
    or row AtTcFilterBpf 7 name (text TcFilterBpfOption.Name)  -- TCA_BPF_NAME
    or row AtTcFilterBpf 8 (exactly le32) (value TcFilterBpfOption.Flags)  -- TCA_BPF_FLAGS
    or row AtTcFilterBpf 9 (exactly u32_option_flags) (value TcFilterBpfOption.FlagsGen)  -- TCA_BPF_FLAGS_GEN
    or row AtTcFilterBpf 10 raw (items TcFilterBpfOption.Tag)  -- TCA_BPF_TAG
    or row AtTcFilterBpf 11 (exactly le32) (value TcFilterBpfOption.Id)  -- TCA_BPF_ID
    or others (value TcFilterBpfOption.Other)) refl refl

-- the family
unfoldable pub attributes : Reading (writing_of table)
attributes = attributes_of table

abbrev pub family : Family TcFilterBpfOption (Unit {0})
family = family_of_table table (λ c. attributes)
