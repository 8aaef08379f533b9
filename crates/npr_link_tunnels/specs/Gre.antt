-- The data of a tunnel of GRE over IP version 4 (linux/if_tunnel.h, IFLA_GRE_*), by the table.
use Rattle.std.specs.Prelude.{false}
use Rattle.npr_base.specs.declared.attribute_set.AttributeSet.TheVariants.{InfoGre as AtGre}
use Rattle.npr_base.specs.Counts.{Counts}
use Rattle.npr_base.specs.Framing.{Item}
use Rattle.npr_base.specs.RowReading.{looks-none}
use Rattle.npr_base.specs.Tables.{EnumTable, table_of, row, others, ◌or◌, be16, be32, boolean, byte, dropped, exactly, le16, le32, nothing, octets4}
use Rattle.npr_base.specs.Tables.{value, refl, Reading, Family, writing_of, attributes_of, family_of_table}
use Rattle.npr_link_tunnels.specs.GreEncapFlags.{gre_encap_flags}
use Rattle.npr_link_tunnels.specs.GreEncapType.{gre_encap_type}
use Rattle.npr_link_tunnels.specs.GreIoFlags.{gre_io_flags}
use Rattle.npr_link_tunnels.specs.contracts.gre.InfoGre.{enum}
use Rattle.npr_link_tunnels.specs.declared.gre.InfoGre.{InfoGre}

-- the table, in the order of the variants
abbrev pub table : EnumTable enum
table =
    table_of enum (
    row AtGre 1 (exactly le32) (value InfoGre.Link)  -- IFLA_GRE_LINK
    or row AtGre 2 (exactly gre_io_flags) (value InfoGre.IFlags)  -- IFLA_GRE_IFLAGS
    or row AtGre 3 (exactly gre_io_flags) (value InfoGre.OFlags)  -- IFLA_GRE_OFLAGS
    or row AtGre 4 (exactly be32) (value InfoGre.IKey)  -- IFLA_GRE_IKEY
    or row AtGre 5 (exactly be32) (value InfoGre.OKey)  -- IFLA_GRE_OKEY
    or row AtGre 6 (exactly octets4) (value InfoGre.Local)  -- IFLA_GRE_LOCAL
    or row AtGre 7 (exactly octets4) (value InfoGre.Remote)  -- IFLA_GRE_REMOTE
    or row AtGre 8 (exactly byte) (value InfoGre.Ttl)  -- IFLA_GRE_TTL
    or row AtGre 9 (exactly byte) (value InfoGre.Tos)  -- IFLA_GRE_TOS
    or row AtGre 10 (exactly boolean) (value InfoGre.PathMTUDiscovery)  -- IFLA_GRE_PMTUDISC
    or row AtGre 14 (exactly gre_encap_type) (value InfoGre.EncapType)  -- IFLA_GRE_ENCAP_TYPE
    or row AtGre 15 (exactly gre_encap_flags) (value InfoGre.EncapFlags)  -- IFLA_GRE_ENCAP_FLAGS
    or row AtGre 16 (exactly be16) (value InfoGre.SourcePort)  -- IFLA_GRE_ENCAP_SPORT
    or row AtGre 17 (exactly be16) (value InfoGre.DestinationPort)  -- IFLA_GRE_ENCAP_DPORT
    or row AtGre 18 dropped (nothing InfoGre.CollectMetadata)  -- IFLA_GRE_COLLECT_METADATA
    or row AtGre 19 (exactly boolean) (value InfoGre.IgnoreDf)  -- IFLA_GRE_IGNORE_DF
    or row AtGre 20 (exactly le32) (value InfoGre.FwMask)  -- IFLA_GRE_FWMARK
    or row AtGre 21 (exactly le32) (value InfoGre.ErspanIndex)  -- IFLA_GRE_ERSPAN_INDEX
    or row AtGre 22 (exactly byte) (value InfoGre.ErspanVer)  -- IFLA_GRE_ERSPAN_VER
    or row AtGre 23 (exactly byte) (value InfoGre.ErspanDir)  -- IFLA_GRE_ERSPAN_DIR
    or row AtGre 24 (exactly le16) (value InfoGre.ErspanHwid)  -- IFLA_GRE_ERSPAN_HWID
    or others (value InfoGre.Other)) refl refl

-- the family
unfoldable pub attributes : Reading (writing_of table)
attributes = attributes_of table

abbrev pub family : Family InfoGre (Unit {0})
family = family_of_table table (λ c. attributes)

-- no attribute has others inside
pub no_looks : (x : Item) (c : Counts) → attributes.looks.Takes x c c
unfolding attributes
no_looks x c = looks-none (λ k. false) enum.parts table.rows refl x c refl
