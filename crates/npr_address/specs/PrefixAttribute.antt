-- The attributes of a message of prefixes (linux/rtnetlink.h, PREFIX_*), by their table.
use Rattle.npr_base.specs.declared.attribute_set.AttributeSet.TheVariants.{Prefix as AtPrefixAttribute}
use Rattle.npr_base.specs.Tables.{EnumTable, table_of, row, others, ◌or◌, value, exactly, leading, octets16, refl, Reading, Family, writing_of, attributes_of}
use Rattle.npr_base.specs.Tables.{family_of_table}
use Rattle.npr_address.specs.PrefixCacheInfo.{cache_info}
use Rattle.npr_address.specs.contracts.prefix_attribute.PrefixAttribute.{enum}
use Rattle.npr_address.specs.declared.prefix_attribute.PrefixAttribute.{PrefixAttribute}

-- the table, in the order of the variants
abbrev pub table : EnumTable enum
table =
    table_of enum (
    row AtPrefixAttribute 1 (exactly octets16) (value PrefixAttribute.Address)  -- PREFIX_ADDRESS
    or row AtPrefixAttribute 2 (leading cache_info) (value PrefixAttribute.CacheInfo)  -- PREFIX_CACHEINFO
    or others (value PrefixAttribute.Other)) refl refl

-- the family
abbrev pub attributes : Reading (writing_of table)
attributes = attributes_of table

abbrev pub family : Family PrefixAttribute (Unit {0})
family = family_of_table table (λ c. attributes)
