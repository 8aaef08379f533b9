-- The attributes of an address message (linux/if_addr.h, IFA_*), by their table.
use Rattle.std.specs.Prelude.{ℕ, Option}
use Rattle.npr_base.specs.declared.attribute_set.AttributeSet.TheVariants.{Address}
use Rattle.npr_base.specs.Tables.{EnumTable, table_of, row, others, ◌or◌, value, text, exactly, leading, ip, name, signed32, le32, octets4, octets16, refl}
use Rattle.npr_base.specs.Tables.{Reading, Family, ValueAt, value_at, found_at, writing_of, attributes_of, family_of_table}
use Rattle.npr_address.specs.AddressFlags.{address_flags}
use Rattle.npr_address.specs.AddressProtocol.{protocol}
use Rattle.npr_address.specs.CacheInfo.{cache_info}
use Rattle.npr_address.specs.declared.attribute.AddressAttribute.{AddressAttribute}
use Rattle.npr_address.specs.contracts.attribute.AddressAttribute.{enum}

-- the table, in the order of the variants
abbrev pub table : EnumTable enum
table =
    table_of enum (
    row Address 1 ip (value AddressAttribute.Address)  -- IFA_ADDRESS
    or row Address 2 ip (value AddressAttribute.Local)  -- IFA_LOCAL
    or row Address 3 name (text AddressAttribute.Label)  -- IFA_LABEL
    or row Address 4 (exactly octets4) (value AddressAttribute.Broadcast)  -- IFA_BROADCAST
    or row Address 5 (exactly octets16) (value AddressAttribute.Anycast)  -- IFA_ANYCAST
    or row Address 6 (leading cache_info) (value AddressAttribute.CacheInfo)  -- IFA_CACHEINFO
    or row Address 7 (exactly octets16) (value AddressAttribute.Multicast)  -- IFA_MULTICAST
    or row Address 8 (exactly address_flags) (value AddressAttribute.Flags)  -- IFA_FLAGS
    or row Address 9 (exactly le32) (value AddressAttribute.RoutePriority)  -- IFA_RT_PRIORITY
    or row Address 10 (exactly signed32) (value AddressAttribute.TargetNetNsId)  -- IFA_TARGET_NETNSID
    or row Address 11 (exactly protocol) (value AddressAttribute.Protocol)  -- IFA_PROTO
    or others (value AddressAttribute.Other)) refl refl

-- the family
abbrev pub attributes : Reading (writing_of table)
attributes = attributes_of table

abbrev pub family : Family AddressAttribute (Unit {0})
family = family_of_table table (λ c. attributes)

-- by the number of its row: the attribute that has such a value, and the value, where it stands there
abbrev pub attribute : (number : ℕ) → ValueAt table number → family.Meaning
attribute number v = value_at table number v

abbrev pub value_of : (number : ℕ) → family.Meaning → Option (ValueAt table number)
value_of number m = found_at table number m
