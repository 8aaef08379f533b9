-- The members of an MPLS tunnel (linux/mpls_iptunnel.h, MPLS_IPTUNNEL_*), by their table.
use Rattle.npr_base.specs.declared.attribute_set.AttributeSet.TheVariants.{Mpls}
use Rattle.npr_base.specs.Tables.{EnumTable, table_of, row, others, ◌or◌, value, items, exactly, byte, refl, Reading, Family, writing_of, attributes_of}
use Rattle.npr_base.specs.Tables.{family_of_table}
use Rattle.npr_route_values.specs.MplsCodec.{mpls_labels}
use Rattle.npr_encapsulation.specs.declared.mpls.RouteMplsIpTunnel.{RouteMplsIpTunnel}
use Rattle.npr_encapsulation.specs.contracts.mpls.RouteMplsIpTunnel.{enum}

-- the table, in the order of the variants
abbrev pub table : EnumTable enum
table =
    table_of enum (
    row Mpls 1 mpls_labels (items RouteMplsIpTunnel.Destination)  -- MPLS_IPTUNNEL_DST
    or row Mpls 2 (exactly byte) (value RouteMplsIpTunnel.Ttl)  -- MPLS_IPTUNNEL_TTL
    or others (value RouteMplsIpTunnel.Other)) refl refl

-- the family
unfoldable pub attributes : Reading (writing_of table)
attributes = attributes_of table

abbrev pub family : Family RouteMplsIpTunnel (Unit {0})
family = family_of_table table (λ c. attributes)
