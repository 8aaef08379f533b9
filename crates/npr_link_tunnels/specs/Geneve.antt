-- The data of a tunnel of Geneve (linux/if_link.h, IFLA_GENEVE_*), by the table.
use Rattle.std.specs.Prelude.{false}
use Rattle.npr_base.specs.declared.attribute_set.AttributeSet.TheVariants.{InfoGeneve as AtGeneve}
use Rattle.npr_base.specs.Counts.{Counts}
use Rattle.npr_base.specs.Framing.{Item}
use Rattle.npr_base.specs.RowReading.{looks-none}
use Rattle.npr_base.specs.Tables.{EnumTable, table_of, row, others, ◌or◌, be16, be32, boolean, byte, dropped, exactly, le32, nothing, octets16, octets4}
use Rattle.npr_base.specs.Tables.{value, refl, Reading, Family, writing_of, attributes_of, family_of_table}
use Rattle.npr_link_tunnels.specs.GeneveDf.{geneve_df}
use Rattle.npr_link_tunnels.specs.Ports.{ports}
use Rattle.npr_link_tunnels.specs.contracts.geneve.InfoGeneve.{enum}
use Rattle.npr_link_tunnels.specs.declared.geneve.InfoGeneve.{InfoGeneve}

-- the table, in the order of the variants
abbrev pub table : EnumTable enum
table =
    table_of enum (
    row AtGeneve 1 (exactly le32) (value InfoGeneve.Id)  -- IFLA_GENEVE_ID
    or row AtGeneve 2 (exactly octets4) (value InfoGeneve.Remote)  -- IFLA_GENEVE_REMOTE
    or row AtGeneve 3 (exactly byte) (value InfoGeneve.Ttl)  -- IFLA_GENEVE_TTL
    or row AtGeneve 4 (exactly byte) (value InfoGeneve.Tos)  -- IFLA_GENEVE_TOS
    or row AtGeneve 5 (exactly be16) (value InfoGeneve.Port)  -- IFLA_GENEVE_PORT
    or row AtGeneve 6 dropped (nothing InfoGeneve.CollectMetadata)  -- IFLA_GENEVE_COLLECT_METADATA
    or row AtGeneve 7 (exactly octets16) (value InfoGeneve.Remote6)  -- IFLA_GENEVE_REMOTE6
    or row AtGeneve 8 (exactly boolean) (value InfoGeneve.UdpCsum)  -- IFLA_GENEVE_UDP_CSUM
    or row AtGeneve 9 (exactly boolean) (value InfoGeneve.UdpZeroCsum6Tx)  -- IFLA_GENEVE_UDP_ZERO_CSUM6_TX
    or row AtGeneve 10 (exactly boolean) (value InfoGeneve.UdpZeroCsum6Rx)  -- IFLA_GENEVE_UDP_ZERO_CSUM6_RX
    or row AtGeneve 11 (exactly be32) (value InfoGeneve.Label)  -- IFLA_GENEVE_LABEL
    or row AtGeneve 12 (exactly boolean) (value InfoGeneve.TtlInherit)  -- IFLA_GENEVE_TTL_INHERIT
    or row AtGeneve 13 (exactly geneve_df) (value InfoGeneve.Df)  -- IFLA_GENEVE_DF
    or row AtGeneve 14 dropped (nothing InfoGeneve.InnerProtoInherit)  -- IFLA_GENEVE_INNER_PROTO_INHERIT
    or row AtGeneve 15 (exactly ports) (value InfoGeneve.PortRange)  -- IFLA_GENEVE_PORT_RANGE
    or row AtGeneve 16 dropped (nothing InfoGeneve.GroHint)  -- IFLA_GENEVE_GRO_HINT
    or row AtGeneve 17 (exactly octets4) (value InfoGeneve.Local)  -- IFLA_GENEVE_LOCAL
    or row AtGeneve 18 (exactly octets16) (value InfoGeneve.Local6)  -- IFLA_GENEVE_LOCAL6
    or others (value InfoGeneve.Other)) refl refl

-- the family
unfoldable pub attributes : Reading (writing_of table)
attributes = attributes_of table

abbrev pub family : Family InfoGeneve (Unit {0})
family = family_of_table table (λ c. attributes)

-- no attribute has others inside
pub no_looks : (x : Item) (c : Counts) → attributes.looks.Takes x c c
unfolding attributes
no_looks x c = looks-none (λ k. false) enum.parts table.rows refl x c refl
