-- What is said of an action that samples packets (linux/tc_act/tc_sample.h, TCA_SAMPLE_*), by the table.
use Rattle.npr_base.specs.declared.attribute_set.AttributeSet.TheVariants.{TcActionSample as AtTcActionSample}
use Rattle.npr_base.specs.Tables.{EnumTable, table_of, row, others, ◌or◌, exactly, le32, leading, value, refl, Reading, Family, writing_of}
use Rattle.npr_base.specs.Tables.{attributes_of, family_of_table}
use Rattle.npr_tc_actions.specs.Generic.{generic}
use Rattle.npr_tc_actions.specs.Tcf.{tcf}
use Rattle.npr_tc_actions.specs.contracts.sample_option.TcActionSampleOption.{enum}
use Rattle.npr_tc_actions.specs.declared.sample_option.TcActionSampleOption.{TcActionSampleOption}

-- the table, in the order of the variants
abbrev pub table : EnumTable enum
table =
    table_of enum (
    row AtTcActionSample 1 (leading tcf) (value TcActionSampleOption.Tm)  -- TCA_SAMPLE_TM
    or row AtTcActionSample 2 (leading generic) (value TcActionSampleOption.Parms)  -- TCA_SAMPLE_PARMS
    or row AtTcActionSample 3 (exactly le32) (value TcActionSampleOption.Rate)  -- TCA_SAMPLE_RATE
    or row AtTcActionSample 4 (exactly le32) (value TcActionSampleOption.TruncSize)  -- TCA_SAMPLE_TRUNC_SIZE
    or row AtTcActionSample 5 (exactly le32) (value TcActionSampleOption.PsampleGroup)  -- TCA_SAMPLE_PSAMPLE_GROUP
    or others (value TcActionSampleOption.Other)) refl refl

-- the family
unfoldable pub attributes : Reading (writing_of table)
attributes = attributes_of table

abbrev pub family : Family TcActionSampleOption (Unit {0})
family = family_of_table table (λ c. attributes)
