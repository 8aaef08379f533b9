-- An entry of a label stack that a flower filter looks for (linux/pkt_cls.h, TCA_FLOWER_KEY_MPLS_OPT_LSE_*), by the table.
use Rattle.npr_base.specs.declared.attribute_set.AttributeSet.TheVariants.{TcFilterFlowerMplsLse as AtTcFilterFlowerMplsLse}
use Rattle.npr_base.specs.Tables.{EnumTable, table_of, row, others, ◌or◌, byte, exactly, le32, value, refl, Reading, Family, writing_of}
use Rattle.npr_base.specs.Tables.{attributes_of, family_of_table}
use Rattle.npr_tc_filters.specs.contracts.flower_mpls_lse.TcFilterFlowerMplsLseOption.{enum}
use Rattle.npr_tc_filters.specs.declared.flower_mpls_lse.TcFilterFlowerMplsLseOption.{TcFilterFlowerMplsLseOption}

-- the table, in the order of the variants
abbrev pub table : EnumTable enum
table =
    table_of enum (
    row AtTcFilterFlowerMplsLse 1 (exactly byte) (value TcFilterFlowerMplsLseOption.LseDepth)  -- TCA_FLOWER_KEY_MPLS_OPT_LSE_DEPTH
    or row AtTcFilterFlowerMplsLse 2 (exactly byte) (value TcFilterFlowerMplsLseOption.LseTtl)  -- TCA_FLOWER_KEY_MPLS_OPT_LSE_TTL
    or row AtTcFilterFlowerMplsLse 3 (exactly byte) (value TcFilterFlowerMplsLseOption.LseBos)  -- TCA_FLOWER_KEY_MPLS_OPT_LSE_BOS
    or row AtTcFilterFlowerMplsLse 4 (exactly byte) (value TcFilterFlowerMplsLseOption.LseTc)  -- TCA_FLOWER_KEY_MPLS_OPT_LSE_TC
    or row AtTcFilterFlowerMplsLse 5 (exactly le32) (value TcFilterFlowerMplsLseOption.LseLabel)  -- TCA_FLOWER_KEY_MPLS_OPT_LSE_LABEL
    or others (value TcFilterFlowerMplsLseOption.Other)) refl refl

-- the family
unfoldable pub attributes : Reading (writing_of table)
attributes = attributes_of table

abbrev pub family : Family TcFilterFlowerMplsLseOption (Unit {0})
family = family_of_table table (λ c. attributes)
