-- The data of a tunnel of OpenVPN (linux/if_link.h, IFLA_OVPN_*), by the table.
use Rattle.npr_base.specs.declared.attribute_set.AttributeSet.TheVariants.{InfoOvpn as AtInfoOvpn}
use Rattle.npr_base.specs.Tables.{EnumTable, table_of, row, others, ◌or◌, exactly, value}
use Rattle.npr_base.specs.Tables.{refl, Reading, Family, writing_of, attributes_of, family_of_table}
use Rattle.npr_link_tunnels.specs.OvpnMode.{ovpn_mode}
use Rattle.npr_link_tunnels.specs.contracts.ovpn.InfoOvpn.{enum}
use Rattle.npr_link_tunnels.specs.declared.ovpn.InfoOvpn.{InfoOvpn}

-- the table, in the order of the variants
abbrev pub table : EnumTable enum
table =
    table_of enum (
    row AtInfoOvpn 1 (exactly ovpn_mode) (value InfoOvpn.Mode)  -- IFLA_OVPN_MODE
    or others (value InfoOvpn.Other)) refl refl

-- the family
unfoldable pub attributes : Reading (writing_of table)
attributes = attributes_of table

abbrev pub family : Family InfoOvpn (Unit {0})
family = family_of_table table (λ c. attributes)
