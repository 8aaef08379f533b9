-- The data of IP over InfiniBand (linux/if_link.h, IFLA_IPOIB_*), by the table.
use Rattle.npr_base.specs.declared.attribute_set.AttributeSet.TheVariants.{InfoIpoib as AtInfoIpoib}
use Rattle.npr_base.specs.Tables.{EnumTable, table_of, row, others, ◌or◌, exactly, le16, value}
use Rattle.npr_base.specs.Tables.{refl, Reading, Family, writing_of, attributes_of, family_of_table}
use Rattle.npr_link_devices.specs.IpoibMode.{ipoib_mode}
use Rattle.npr_link_devices.specs.contracts.ipoib.InfoIpoib.{enum}
use Rattle.npr_link_devices.specs.declared.ipoib.InfoIpoib.{InfoIpoib}

-- the table, in the order of the variants
abbrev pub table : EnumTable enum
table =
    table_of enum (
    row AtInfoIpoib 1 (exactly le16) (value InfoIpoib.Pkey)  -- IFLA_IPOIB_PKEY
    or row AtInfoIpoib 2 (exactly ipoib_mode) (value InfoIpoib.Mode)  -- IFLA_IPOIB_MODE
    or row AtInfoIpoib 3 (exactly le16) (value InfoIpoib.UmCast)  -- IFLA_IPOIB_UMCAST
    or others (value InfoIpoib.Other)) refl refl

-- the family
unfoldable pub attributes : Reading (writing_of table)
attributes = attributes_of table

abbrev pub family : Family InfoIpoib (Unit {0})
family = family_of_table table (λ c. attributes)
