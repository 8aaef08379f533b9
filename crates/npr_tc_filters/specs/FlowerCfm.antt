-- What a flower filter looks for in a message of CFM (linux/pkt_cls.h, TCA_FLOWER_KEY_CFM_*), by the table.
use Rattle.npr_base.specs.declared.attribute_set.AttributeSet.TheVariants.{TcFlowerCfm as AtTcFlowerCfm}
use Rattle.npr_base.specs.Tables.{EnumTable, table_of, row, others, ◌or◌, byte, exactly, value, refl, Reading, Family, writing_of}
use Rattle.npr_base.specs.Tables.{attributes_of, family_of_table}
use Rattle.npr_tc_filters.specs.contracts.flower_cfm.TcFlowerCfmOption.{enum}
use Rattle.npr_tc_filters.specs.declared.flower_cfm.TcFlowerCfmOption.{TcFlowerCfmOption}

-- the table, in the order of the variants
abbrev pub table : EnumTable enum
table =
    table_of enum (
    row AtTcFlowerCfm 1 (exactly byte) (value TcFlowerCfmOption.MdLevel)  -- TCA_FLOWER_KEY_CFM_MD_LEVEL
    or row AtTcFlowerCfm 2 (exactly byte) (value TcFlowerCfmOption.Opcode)  -- TCA_FLOWER_KEY_CFM_OPCODE
    or others (value TcFlowerCfmOption.Other)) refl refl

-- the family
unfoldable pub attributes : Reading (writing_of table)
attributes = attributes_of table

abbrev pub family : Family TcFlowerCfmOption (Unit {0})
family = family_of_table table (λ c. attributes)
