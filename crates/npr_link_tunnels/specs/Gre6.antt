-- The data of a tunnel of GRE over IP version 6 (linux/if_tunnel.h, IFLA_GRE_*), by the table.
use Rattle.std.specs.Prelude.{false}
use Rattle.npr_base.specs.declared.attribute_set.AttributeSet.TheVariants.{InfoGre6 as AtGre6}
use Rattle.npr_base.specs.Counts.{Counts}
use Rattle.npr_base.specs.Framing.{Item}
use Rattle.npr_base.specs.RowReading.{looks-none}
use Rattle.npr_base.specs.Tables.{EnumTable, table_of, row, others, ◌or◌, be16, be32, byte, dropped, exactly, le16, le32, nothing, octets16}
use Rattle.npr_base.specs.Tables.{value, refl, Reading, Family, writing_of, attributes_of, family_of_table}
use Rattle.npr_link_tunnels.specs.GreEncapFlags.{gre_encap_flags}
use Rattle.npr_link_tunnels.specs.GreEncapType.{gre_encap_type}
use Rattle.npr_link_tunnels.specs.GreIoFlags.{gre_io_flags}
use Rattle.npr_link_tunnels.specs.Ip6TunnelFlags.{ip6_tunnel_flags}
use Rattle.npr_link_tunnels.specs.contracts.gre6.InfoGre6.{enum}
use Rattle.npr_link_tunnels.specs.declared.gre6.InfoGre6.{InfoGre6}

-- the table, in the order of the variants
abbrev pub table : EnumTable enum
table =
    table_of enum (
    row AtGre6 1 (exactly le32) (value InfoGre6.Link)  -- IFLA_GRE_LINK
    or row AtGre6 2 (exactly gre_io_flags) (value InfoGre6.IFlags)  -- IFLA_GRE_IFLAGS
    or row AtGre6 3 (exactly gre_io_flags) (value InfoGre6.OFlags)  -- IFLA_GRE_OFLAGS
    or row AtGre6 4 (exactly be32) (value InfoGre6.IKey)  -- IFLA_GRE_IKEY
    or row AtGre6 5 (exactly be32) (value InfoGre6.OKey)  -- IFLA_GRE_OKEY
    or row AtGre6 6 (exactly octets16) (value InfoGre6.Local)  -- IFLA_GRE_LOCAL
    or row AtGre6 7 (exactly octets16) (value InfoGre6.Remote)  -- IFLA_GRE_REMOTE
    or row AtGre6 8 (exactly byte) (value InfoGre6.Ttl)  -- IFLA_GRE_TTL
    or row AtGre6 11 (exactly byte) (value InfoGre6.EncapLimit)  -- IFLA_GRE_ENCAP_LIMIT
    or row AtGre6 12 (exactly be32) (value InfoGre6.FlowLabel)  -- IFLA_GRE_FLOWINFO
    or row AtGre6 13 (exactly ip6_tunnel_flags) (value InfoGre6.Flags)  -- IFLA_GRE_FLAGS
    or row AtGre6 14 (exactly gre_encap_type) (value InfoGre6.EncapType)  -- IFLA_GRE_ENCAP_TYPE
    or row AtGre6 15 (exactly gre_encap_flags) (value InfoGre6.EncapFlags)  -- IFLA_GRE_ENCAP_FLAGS
    or row AtGre6 16 (exactly be16) (value InfoGre6.SourcePort)  -- IFLA_GRE_ENCAP_SPORT
    or row AtGre6 17 (exactly be16) (value InfoGre6.DestinationPort)  -- IFLA_GRE_ENCAP_DPORT
    or row AtGre6 18 dropped (nothing InfoGre6.CollectMetadata)  -- IFLA_GRE_COLLECT_METADATA
    or row AtGre6 20 (exactly le32) (value InfoGre6.FwMask)  -- IFLA_GRE_FWMARK
    or row AtGre6 21 (exactly le32) (value InfoGre6.ErspanIndex)  -- IFLA_GRE_ERSPAN_INDEX
    or row AtGre6 22 (exactly byte) (value InfoGre6.ErspanVer)  -- IFLA_GRE_ERSPAN_VER
    or row AtGre6 23 (exactly byte) (value InfoGre6.ErspanDir)  -- IFLA_GRE_ERSPAN_DIR
    or row AtGre6 24 (exactly le16) (value InfoGre6.ErspanHwid)  -- IFLA_GRE_ERSPAN_HWID
    or others (value InfoGre6.Other)) refl refl

-- the family
unfoldable pub attributes : Reading (writing_of table)
attributes = attributes_of table

abbrev pub family : Family InfoGre6 (Unit {0})
family = family_of_table table (λ c. attributes)

-- no attribute has others inside
pub no_looks : (x : Item) (c : Counts) → attributes.looks.Takes x c c
unfolding attributes
no_looks x c = looks-none (λ k. false) enum.parts table.rows refl x c refl
