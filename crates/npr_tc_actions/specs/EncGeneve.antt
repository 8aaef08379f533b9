-- What is said of an option of Geneve (linux/pkt_cls.h, TCA_FLOWER_KEY_ENC_OPT_GENEVE_*), by the table.
use Rattle.npr_base.specs.declared.attribute_set.AttributeSet.TheVariants.{TcEncGeneve as AtTcEncGeneve}
use Rattle.npr_base.specs.Tables.{EnumTable, table_of, row, others, ◌or◌, be16, byte, exactly, items, raw, value, refl, Reading, Family, writing_of}
use Rattle.npr_base.specs.Tables.{attributes_of, family_of_table}
use Rattle.npr_tc_actions.specs.contracts.enc_geneve.TcEncGeneve.{enum}
use Rattle.npr_tc_actions.specs.declared.enc_geneve.TcEncGeneve.{TcEncGeneve}

-- the table, in the order of the variants
abbrev pub table : EnumTable enum
table =
    table_of enum (
    row AtTcEncGeneve 1 (exactly be16) (value TcEncGeneve.Class)  -- TCA_FLOWER_KEY_ENC_OPT_GENEVE_CLASS
    or row AtTcEncGeneve 2 (exactly byte) (value TcEncGeneve.Type)  -- TCA_FLOWER_KEY_ENC_OPT_GENEVE_TYPE
    or row AtTcEncGeneve 3 raw (items TcEncGeneve.Data)  -- TCA_FLOWER_KEY_ENC_OPT_GENEVE_DATA
    or others (value TcEncGeneve.Other)) refl refl

-- the family
unfoldable pub attributes : Reading (writing_of table)
attributes = attributes_of table

abbrev pub family : Family TcEncGeneve (Unit {0})
family = family_of_table table (λ c. attributes)
