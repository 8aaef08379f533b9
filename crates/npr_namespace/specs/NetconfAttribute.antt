-- The attributes of a message of settings (linux/netconf.h, NETCONFA_*), by their table.
use Rattle.npr_base.specs.declared.attribute_set.AttributeSet.TheVariants.{Netconf as AtNetconfAttribute}
use Rattle.npr_base.specs.Tables.{EnumTable, table_of, row, others, ◌or◌, value, exactly, signed32, refl, Reading, Family, writing_of, attributes_of}
use Rattle.npr_base.specs.Tables.{family_of_table}
use Rattle.npr_namespace.specs.contracts.netconf_attribute.NetconfAttribute.{enum}
use Rattle.npr_namespace.specs.declared.netconf_attribute.NetconfAttribute.{NetconfAttribute}

-- the table, in the order of the variants
abbrev pub table : EnumTable enum
table =
    table_of enum (
    row AtNetconfAttribute 1 (exactly signed32) (value NetconfAttribute.IfIndex)  -- NETCONFA_IFINDEX
    or row AtNetconfAttribute 2 (exactly signed32) (value NetconfAttribute.Forwarding)  -- NETCONFA_FORWARDING
    or row AtNetconfAttribute 3 (exactly signed32) (value NetconfAttribute.RpFilter)  -- NETCONFA_RP_FILTER
    or row AtNetconfAttribute 4 (exactly signed32) (value NetconfAttribute.McForwarding)  -- NETCONFA_MC_FORWARDING
    or row AtNetconfAttribute 5 (exactly signed32) (value NetconfAttribute.ProxyNeigh)  -- NETCONFA_PROXY_NEIGH
    or row AtNetconfAttribute 6 (exactly signed32) (value NetconfAttribute.IgnoreRoutesWithLinkdown)  -- NETCONFA_IGNORE_ROUTES_WITH_LINKDOWN
    or row AtNetconfAttribute 7 (exactly signed32) (value NetconfAttribute.Input)  -- NETCONFA_INPUT
    or row AtNetconfAttribute 8 (exactly signed32) (value NetconfAttribute.BcForwarding)  -- NETCONFA_BC_FORWARDING
    or row AtNetconfAttribute 9 (exactly signed32) (value NetconfAttribute.ForceForwarding)  -- NETCONFA_FORCE_FORWARDING
    or others (value NetconfAttribute.Other)) refl refl

-- the family
abbrev pub attributes : Reading (writing_of table)
attributes = attributes_of table

abbrev pub family : Family NetconfAttribute (Unit {0})
family = family_of_table table (λ c. attributes)
