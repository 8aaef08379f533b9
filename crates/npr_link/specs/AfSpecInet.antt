-- What IP version 4 says of a link (linux/if_link.h, IFLA_INET_*), by the table.
use Rattle.npr_base.specs.declared.attribute_set.AttributeSet.TheVariants.{AfSpecInet as AtAfSpecInet}
use Rattle.npr_base.specs.Tables.{EnumTable, table_of, row, others, ◌or◌, seen, value, refl, Reading, Family, writing_of, attributes_of, family_of_table}
use Rattle.npr_link_statistics.specs.Grown.{grown, parts}
use Rattle.npr_link_statistics.specs.Names.{inet_devconf}
use Rattle.npr_base.specs.Words.{signed_words32}
use Rattle.npr_link.specs.contracts.af_spec_inet.AfSpecInet.{enum}
use Rattle.npr_link.specs.declared.af_spec_inet.AfSpecInet.{AfSpecInet}

-- the table, in the order of the variants
abbrev pub table : EnumTable enum
table =
    table_of enum (
    row AtAfSpecInet 1 (grown signed_words32 inet_devconf) (seen (parts inet_devconf) AfSpecInet.DevConf)  -- IFLA_INET_CONF
    or others (value AfSpecInet.Other)) refl refl

-- the family
unfoldable pub attributes : Reading (writing_of table)
attributes = attributes_of table

abbrev pub family : Family AfSpecInet (Unit {0})
family = family_of_table table (λ c. attributes)
