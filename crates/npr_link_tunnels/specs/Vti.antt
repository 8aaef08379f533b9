-- The data of a virtual tunnel interface (linux/if_tunnel.h, IFLA_VTI_*), by the table.
use Rattle.npr_base.specs.declared.attribute_set.AttributeSet.TheVariants.{InfoVti as AtVti}
use Rattle.npr_base.specs.Tables.{EnumTable, table_of, row, others, ◌or◌, be32, exactly, ip, le32}
use Rattle.npr_base.specs.Tables.{value, refl, Reading, Family, writing_of, attributes_of, family_of_table}
use Rattle.npr_link_tunnels.specs.contracts.vti.InfoVti.{enum}
use Rattle.npr_link_tunnels.specs.declared.vti.InfoVti.{InfoVti}

-- the table, in the order of the variants
abbrev pub table : EnumTable enum
table =
    table_of enum (
    row AtVti 1 (exactly le32) (value InfoVti.Link)  -- IFLA_VTI_LINK
    or row AtVti 2 (exactly be32) (value InfoVti.IKey)  -- IFLA_VTI_IKEY
    or row AtVti 3 (exactly be32) (value InfoVti.OKey)  -- IFLA_VTI_OKEY
    or row AtVti 4 ip (value InfoVti.Local)  -- IFLA_VTI_LOCAL
    or row AtVti 5 ip (value InfoVti.Remote)  -- IFLA_VTI_REMOTE
    or row AtVti 6 (exactly le32) (value InfoVti.FwMark)  -- IFLA_VTI_FWMARK
    or others (value InfoVti.Other)) refl refl

-- the family
unfoldable pub attributes : Reading (writing_of table)
attributes = attributes_of table

abbrev pub family : Family InfoVti (Unit {0})
family = family_of_table table (λ c. attributes)
