-- The data of an interface of IPsec (linux/if_link.h, IFLA_XFRM_*), by the table.
use Rattle.npr_base.specs.declared.attribute_set.AttributeSet.TheVariants.{InfoXfrm as AtXfrm}
use Rattle.npr_base.specs.Tables.{EnumTable, table_of, row, others, ◌or◌, dropped, exactly, le32, nothing}
use Rattle.npr_base.specs.Tables.{value, refl, Reading, Family, writing_of, attributes_of, family_of_table}
use Rattle.npr_link_tunnels.specs.contracts.xfrm.InfoXfrm.{enum}
use Rattle.npr_link_tunnels.specs.declared.xfrm.InfoXfrm.{InfoXfrm}

-- the table, in the order of the variants
abbrev pub table : EnumTable enum
table =
    table_of enum (
    row AtXfrm 1 (exactly le32) (value InfoXfrm.Link)  -- IFLA_XFRM_LINK
    or row AtXfrm 2 (exactly le32) (value InfoXfrm.IfId)  -- IFLA_XFRM_IF_ID
    or row AtXfrm 3 dropped (nothing InfoXfrm.CollectMetadata)  -- IFLA_XFRM_COLLECT_METADATA
    or others (value InfoXfrm.Other)) refl refl

-- the family
unfoldable pub attributes : Reading (writing_of table)
attributes = attributes_of table

abbrev pub family : Family InfoXfrm (Unit {0})
family = family_of_table table (λ c. attributes)
