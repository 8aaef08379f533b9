-- What IP version 6 says of a link (linux/if_link.h, IFLA_INET6_*), by the table.
use Rattle.npr_base.specs.declared.attribute_set.AttributeSet.TheVariants.{AfSpecInet6 as AtAfSpecInet6}
use Rattle.npr_base.specs.Tables.{EnumTable, table_of, row, others, ◌or◌, exactly, items, le32, leading, octets16, raw, seen, value, refl, Reading, Family}
use Rattle.npr_base.specs.Tables.{writing_of, attributes_of, family_of_table}
use Rattle.npr_link.specs.AddressMode.{address_mode}
use Rattle.npr_link.specs.Inet6CacheInfo.{inet6_cache_info}
use Rattle.npr_link.specs.Inet6Flags.{inet6_flags}
use Rattle.npr_link_statistics.specs.Grown.{grown, parts}
use Rattle.npr_link_statistics.specs.Names.{icmp6_stats, inet6_devconf, inet6_stats}
use Rattle.npr_base.specs.Words.{signed_words32, signed_words64}
use Rattle.npr_link.specs.contracts.af_spec_inet6.AfSpecInet6.{enum}
use Rattle.npr_link.specs.declared.af_spec_inet6.AfSpecInet6.{AfSpecInet6}

-- the table, in the order of the variants
abbrev pub table : EnumTable enum
table =
    table_of enum (
    row AtAfSpecInet6 1 (exactly inet6_flags) (value AfSpecInet6.Flags)  -- IFLA_INET6_FLAGS
    or row AtAfSpecInet6 2 (grown signed_words32 inet6_devconf) (seen (parts inet6_devconf) AfSpecInet6.DevConf)  -- IFLA_INET6_CONF
    or row AtAfSpecInet6 3 (grown signed_words64 inet6_stats) (seen (parts inet6_stats) AfSpecInet6.Stats)  -- IFLA_INET6_STATS
    or row AtAfSpecInet6 4 raw (items AfSpecInet6.Multicast)  -- IFLA_INET6_MCAST
    or row AtAfSpecInet6 5 (leading inet6_cache_info) (value AfSpecInet6.CacheInfo)  -- IFLA_INET6_CACHEINFO
    or row AtAfSpecInet6 6 (grown signed_words64 icmp6_stats) (seen (parts icmp6_stats) AfSpecInet6.Icmp6Stats)  -- IFLA_INET6_ICMP6STATS
    or row AtAfSpecInet6 7 (exactly octets16) (value AfSpecInet6.Token)  -- IFLA_INET6_TOKEN
    or row AtAfSpecInet6 8 (exactly address_mode) (value AfSpecInet6.AddrGenMode)  -- IFLA_INET6_ADDR_GEN_MODE
    or row AtAfSpecInet6 9 (exactly le32) (value AfSpecInet6.RaMtu)  -- IFLA_INET6_RA_MTU
    or others (value AfSpecInet6.Other)) refl refl

-- the family
unfoldable pub attributes : Reading (writing_of table)
attributes = attributes_of table

abbrev pub family : Family AfSpecInet6 (Unit {0})
family = family_of_table table (λ c. attributes)
