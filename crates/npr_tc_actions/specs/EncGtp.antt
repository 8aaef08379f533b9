-- What is said of the options of GTP (linux/pkt_cls.h, TCA_FLOWER_KEY_ENC_OPT_GTP_*), by the table.
use Rattle.npr_base.specs.declared.attribute_set.AttributeSet.TheVariants.{TcEncGtp as AtTcEncGtp}
use Rattle.npr_base.specs.Tables.{EnumTable, table_of, row, others, ◌or◌, byte, exactly, value, refl, Reading, Family, writing_of, attributes_of}
use Rattle.npr_base.specs.Tables.{family_of_table}
use Rattle.npr_tc_actions.specs.contracts.enc_gtp.TcEncGtp.{enum}
use Rattle.npr_tc_actions.specs.declared.enc_gtp.TcEncGtp.{TcEncGtp}

-- the table, in the order of the variants
abbrev pub table : EnumTable enum
table =
    table_of enum (
    row AtTcEncGtp 1 (exactly byte) (value TcEncGtp.PduType)  -- TCA_FLOWER_KEY_ENC_OPT_GTP_PDU_TYPE
    or row AtTcEncGtp 2 (exactly byte) (value TcEncGtp.Qfi)  -- TCA_FLOWER_KEY_ENC_OPT_GTP_QFI
    or others (value TcEncGtp.Other)) refl refl

-- the family
unfoldable pub attributes : Reading (writing_of table)
attributes = attributes_of table

abbrev pub family : Family TcEncGtp (Unit {0})
family = family_of_table table (λ c. attributes)
