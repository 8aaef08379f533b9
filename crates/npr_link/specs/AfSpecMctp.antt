-- What MCTP says of a link (linux/if_link.h, IFLA_MCTP_*), by the table.
use Rattle.npr_base.specs.declared.attribute_set.AttributeSet.TheVariants.{AfSpecMctp as AtAfSpecMctp}
use Rattle.npr_base.specs.Tables.{EnumTable, table_of, row, others, ◌or◌, byte, exactly, le32, value}
use Rattle.npr_base.specs.Tables.{refl, Reading, Family, writing_of, attributes_of, family_of_table}
use Rattle.npr_link.specs.contracts.af_spec_mctp.AfSpecMctp.{enum}
use Rattle.npr_link.specs.declared.af_spec_mctp.AfSpecMctp.{AfSpecMctp}

-- the table, in the order of the variants
abbrev pub table : EnumTable enum
table =
    table_of enum (
    row AtAfSpecMctp 1 (exactly le32) (value AfSpecMctp.Net)  -- IFLA_MCTP_NET
    or row AtAfSpecMctp 2 (exactly byte) (value AfSpecMctp.PhysBinding)  -- IFLA_MCTP_PHYS_BINDING
    or others (value AfSpecMctp.Other)) refl refl

-- the family
unfoldable pub attributes : Reading (writing_of table)
attributes = attributes_of table

abbrev pub family : Family AfSpecMctp (Unit {0})
family = family_of_table table (λ c. attributes)
