-- What is said of the options of ERSPAN (linux/pkt_cls.h, TCA_FLOWER_KEY_ENC_OPT_ERSPAN_*), by the table.
use Rattle.npr_base.specs.declared.attribute_set.AttributeSet.TheVariants.{TcEncErspan as AtTcEncErspan}
use Rattle.npr_base.specs.Tables.{EnumTable, table_of, row, others, ◌or◌, be32, byte, exactly, value, refl, Reading, Family, writing_of}
use Rattle.npr_base.specs.Tables.{attributes_of, family_of_table}
use Rattle.npr_tc_actions.specs.contracts.enc_erspan.TcEncErspan.{enum}
use Rattle.npr_tc_actions.specs.declared.enc_erspan.TcEncErspan.{TcEncErspan}

-- the table, in the order of the variants
abbrev pub table : EnumTable enum
table =
    table_of enum (
    row AtTcEncErspan 1 (exactly byte) (value TcEncErspan.Ver)  -- TCA_FLOWER_KEY_ENC_OPT_ERSPAN_VER
    or row AtTcEncErspan 2 (exactly be32) (value TcEncErspan.Index)  -- TCA_FLOWER_KEY_ENC_OPT_ERSPAN_INDEX
    or row AtTcEncErspan 3 (exactly byte) (value TcEncErspan.Dir)  -- TCA_FLOWER_KEY_ENC_OPT_ERSPAN_DIR
    or row AtTcEncErspan 4 (exactly byte) (value TcEncErspan.Hwid)  -- TCA_FLOWER_KEY_ENC_OPT_ERSPAN_HWID
    or others (value TcEncErspan.Other)) refl refl

-- the family
unfoldable pub attributes : Reading (writing_of table)
attributes = attributes_of table

abbrev pub family : Family TcEncErspan (Unit {0})
family = family_of_table table (λ c. attributes)
