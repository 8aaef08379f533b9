-- What is said of the options of VXLAN (linux/pkt_cls.h, TCA_FLOWER_KEY_ENC_OPT_VXLAN_*), by the table.
use Rattle.npr_base.specs.declared.attribute_set.AttributeSet.TheVariants.{TcEncVxlan as AtTcEncVxlan}
use Rattle.npr_base.specs.Tables.{EnumTable, table_of, row, others, ◌or◌, exactly, le32, value, refl, Reading, Family, writing_of, attributes_of}
use Rattle.npr_base.specs.Tables.{family_of_table}
use Rattle.npr_tc_actions.specs.contracts.enc_vxlan.TcEncVxlan.{enum}
use Rattle.npr_tc_actions.specs.declared.enc_vxlan.TcEncVxlan.{TcEncVxlan}

-- the table, in the order of the variants
abbrev pub table : EnumTable enum
table =
    table_of enum (
    row AtTcEncVxlan 1 (exactly le32) (value TcEncVxlan.Gbp)  -- TCA_FLOWER_KEY_ENC_OPT_VXLAN_GBP
    or others (value TcEncVxlan.Other)) refl refl

-- the family
unfoldable pub attributes : Reading (writing_of table)
attributes = attributes_of table

abbrev pub family : Family TcEncVxlan (Unit {0})
family = family_of_table table (λ c. attributes)
