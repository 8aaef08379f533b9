-- What is said of the options of PFCP (linux/pkt_cls.h, TCA_FLOWER_KEY_ENC_OPT_PFCP_*), by the table.
use Rattle.npr_base.specs.declared.attribute_set.AttributeSet.TheVariants.{TcEncPfcp as AtTcEncPfcp}
use Rattle.npr_base.specs.Tables.{EnumTable, table_of, row, others, ◌or◌, be64, byte, exactly, value, refl, Reading, Family, writing_of}
use Rattle.npr_base.specs.Tables.{attributes_of, family_of_table}
use Rattle.npr_tc_actions.specs.contracts.enc_pfcp.TcEncPfcp.{enum}
use Rattle.npr_tc_actions.specs.declared.enc_pfcp.TcEncPfcp.{TcEncPfcp}

-- the table, in the order of the variants
abbrev pub table : EnumTable enum
table =
    table_of enum (
    row AtTcEncPfcp 1 (exactly byte) (value TcEncPfcp.Type)  -- TCA_FLOWER_KEY_ENC_OPT_PFCP_TYPE
    or row AtTcEncPfcp 2 (exactly be64) (value TcEncPfcp.Seid)  -- TCA_FLOWER_KEY_ENC_OPT_PFCP_SEID
    or others (value TcEncPfcp.Other)) refl refl

-- the family
unfoldable pub attributes : Reading (writing_of table)
attributes = attributes_of table

abbrev pub family : Family TcEncPfcp (Unit {0})
family = family_of_table table (λ c. attributes)
