-- What an address family says of a link (linux/socket.h, AF_*), by the table.
use Rattle.npr_base.specs.declared.attribute_set.AttributeSet.TheVariants.{AfSpecUnspec as AtAfSpec, AfSpecInet as AtAfSpecInet, AfSpecInet6 as AtAfSpecInet6}
use Rattle.npr_base.specs.declared.attribute_set.AttributeSet.TheVariants.{AfSpecMctp as AtAfSpecMctp}
use Rattle.npr_base.specs.Tables.{EnumTable, table_of, row, others, ◌or◌, list_of, listed, value, refl, Reading, Family, writing_of, attributes_of}
use Rattle.npr_base.specs.Tables.{family_of_table}
use Rattle.npr_link.specs.AfSpecInet as OfAfSpecInet
use Rattle.npr_link.specs.AfSpecInet6 as OfAfSpecInet6
use Rattle.npr_link.specs.AfSpecMctp as OfAfSpecMctp
use Rattle.npr_link.specs.contracts.af_spec.AfSpecUnspec.{enum}
use Rattle.npr_link.specs.declared.af_spec.AfSpecUnspec.{AfSpecUnspec}

-- the table, in the order of the variants
abbrev pub table : EnumTable enum
table =
    table_of enum (
    row AtAfSpec 2 (list_of AtAfSpecInet OfAfSpecInet.attributes) (listed OfAfSpecInet.family.meaning AfSpecUnspec.Inet)  -- AF_INET
    or row AtAfSpec 10 (list_of AtAfSpecInet6 OfAfSpecInet6.attributes) (listed OfAfSpecInet6.family.meaning AfSpecUnspec.Inet6)  -- AF_INET6
    or row AtAfSpec 45 (list_of AtAfSpecMctp OfAfSpecMctp.attributes) (listed OfAfSpecMctp.family.meaning AfSpecUnspec.Mctp)  -- AF_MCTP
    or others (value AfSpecUnspec.Other)) refl refl

-- the family
unfoldable pub attributes : Reading (writing_of table)
attributes = attributes_of table

abbrev pub family : Family AfSpecUnspec (Unit {0})
family = family_of_table table (λ c. attributes)
