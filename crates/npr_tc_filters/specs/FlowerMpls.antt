-- The label stack that a flower filter looks for (linux/pkt_cls.h, TCA_FLOWER_KEY_MPLS_OPTS_*), by the table.
use Rattle.npr_base.specs.declared.attribute_set.AttributeSet.TheVariants.{TcFilterFlowerMpls as AtMpls}
use Rattle.npr_base.specs.declared.attribute_set.AttributeSet.TheVariants.{TcFilterFlowerMplsLse as AtLse}
use Rattle.npr_base.specs.Tables.{EnumTable, table_of, marked_row, others, ◌or◌, list_of, listed, value, refl, Reading, Family, writing_of}
use Rattle.npr_base.specs.Tables.{attributes_of, family_of_table}
use Rattle.npr_tc_filters.specs.FlowerMplsLse as OfLse
use Rattle.npr_tc_filters.specs.contracts.flower_mpls.TcFilterFlowerMplsOption.{enum}
use Rattle.npr_tc_filters.specs.declared.flower_mpls.TcFilterFlowerMplsOption.{TcFilterFlowerMplsOption}

-- the table, in the order of the variants
abbrev pub table : EnumTable enum
table =
    table_of enum (
    marked_row AtMpls 1 (list_of AtLse OfLse.attributes) (listed OfLse.family.meaning TcFilterFlowerMplsOption.Lse)  -- TCA_FLOWER_KEY_MPLS_OPTS_LSE
    or others (value TcFilterFlowerMplsOption.Other)) refl refl

-- the family
unfoldable pub attributes : Reading (writing_of table)
attributes = attributes_of table

abbrev pub family : Family TcFilterFlowerMplsOption (Unit {0})
family = family_of_table table (λ c. attributes)
