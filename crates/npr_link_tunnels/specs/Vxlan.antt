-- The data of a tunnel of VXLAN (linux/if_link.h, IFLA_VXLAN_*), by the table.
use Rattle.std.specs.Prelude.{false}
use Rattle.npr_base.specs.declared.attribute_set.AttributeSet.TheVariants.{InfoVxlan as AtVxlan}
use Rattle.npr_base.specs.Counts.{Counts}
use Rattle.npr_base.specs.Framing.{Item}
use Rattle.npr_base.specs.RowReading.{looks-none}
use Rattle.npr_base.specs.Tables.{EnumTable, table_of, row, others, ◌or◌, be16, be32, be64, boolean, byte, exactly, flag, le32, octets16, octets4}
use Rattle.npr_base.specs.Tables.{value, refl, Reading, Family, writing_of, attributes_of, family_of_table}
use Rattle.npr_link_tunnels.specs.Ports.{ports}
use Rattle.npr_link_tunnels.specs.contracts.vxlan.InfoVxlan.{enum}
use Rattle.npr_link_tunnels.specs.declared.vxlan.InfoVxlan.{InfoVxlan}

-- the table, in the order of the variants
abbrev pub table : EnumTable enum
table =
    table_of enum (
    row AtVxlan 1 (exactly le32) (value InfoVxlan.Id)  -- IFLA_VXLAN_ID
    or row AtVxlan 2 (exactly octets4) (value InfoVxlan.Group)  -- IFLA_VXLAN_GROUP
    or row AtVxlan 3 (exactly le32) (value InfoVxlan.Link)  -- IFLA_VXLAN_LINK
    or row AtVxlan 4 (exactly octets4) (value InfoVxlan.Local)  -- IFLA_VXLAN_LOCAL
    or row AtVxlan 5 (exactly byte) (value InfoVxlan.Ttl)  -- IFLA_VXLAN_TTL
    or row AtVxlan 6 (exactly byte) (value InfoVxlan.Tos)  -- IFLA_VXLAN_TOS
    or row AtVxlan 7 (exactly boolean) (value InfoVxlan.Learning)  -- IFLA_VXLAN_LEARNING
    or row AtVxlan 8 (exactly le32) (value InfoVxlan.Ageing)  -- IFLA_VXLAN_AGEING
    or row AtVxlan 9 (exactly le32) (value InfoVxlan.Limit)  -- IFLA_VXLAN_LIMIT
    or row AtVxlan 10 (exactly ports) (value InfoVxlan.PortRange)  -- IFLA_VXLAN_PORT_RANGE
    or row AtVxlan 11 (exactly boolean) (value InfoVxlan.Proxy)  -- IFLA_VXLAN_PROXY
    or row AtVxlan 12 (exactly boolean) (value InfoVxlan.Rsc)  -- IFLA_VXLAN_RSC
    or row AtVxlan 13 (exactly boolean) (value InfoVxlan.L2Miss)  -- IFLA_VXLAN_L2MISS
    or row AtVxlan 14 (exactly boolean) (value InfoVxlan.L3Miss)  -- IFLA_VXLAN_L3MISS
    or row AtVxlan 15 (exactly be16) (value InfoVxlan.Port)  -- IFLA_VXLAN_PORT
    or row AtVxlan 16 (exactly octets16) (value InfoVxlan.Group6)  -- IFLA_VXLAN_GROUP6
    or row AtVxlan 17 (exactly octets16) (value InfoVxlan.Local6)  -- IFLA_VXLAN_LOCAL6
    or row AtVxlan 18 (exactly boolean) (value InfoVxlan.UDPCsum)  -- IFLA_VXLAN_UDP_CSUM
    or row AtVxlan 19 (exactly boolean) (value InfoVxlan.UDPZeroCsumTX)  -- IFLA_VXLAN_UDP_ZERO_CSUM6_TX
    or row AtVxlan 20 (exactly boolean) (value InfoVxlan.UDPZeroCsumRX)  -- IFLA_VXLAN_UDP_ZERO_CSUM6_RX
    or row AtVxlan 21 (exactly boolean) (value InfoVxlan.RemCsumTX)  -- IFLA_VXLAN_REMCSUM_TX
    or row AtVxlan 22 (exactly boolean) (value InfoVxlan.RemCsumRX)  -- IFLA_VXLAN_REMCSUM_RX
    or row AtVxlan 23 flag (value InfoVxlan.Gbp)  -- IFLA_VXLAN_GBP
    or row AtVxlan 24 flag (value InfoVxlan.RemCsumNoPartial)  -- IFLA_VXLAN_REMCSUM_NOPARTIAL
    or row AtVxlan 25 (exactly boolean) (value InfoVxlan.CollectMetadata)  -- IFLA_VXLAN_COLLECT_METADATA
    or row AtVxlan 26 (exactly be32) (value InfoVxlan.Label)  -- IFLA_VXLAN_LABEL
    or row AtVxlan 27 flag (value InfoVxlan.Gpe)  -- IFLA_VXLAN_GPE
    or row AtVxlan 28 flag (value InfoVxlan.TtlInherit)  -- IFLA_VXLAN_TTL_INHERIT
    or row AtVxlan 29 (exactly byte) (value InfoVxlan.Df)  -- IFLA_VXLAN_DF
    or row AtVxlan 30 (exactly boolean) (value InfoVxlan.Vnifilter)  -- IFLA_VXLAN_VNIFILTER
    or row AtVxlan 31 (exactly boolean) (value InfoVxlan.Localbypass)  -- IFLA_VXLAN_LOCALBYPASS
    or row AtVxlan 32 (exactly le32) (value InfoVxlan.LabelPolicy)  -- IFLA_VXLAN_LABEL_POLICY
    or row AtVxlan 33 (exactly be64) (value InfoVxlan.ReservedBits)  -- IFLA_VXLAN_RESERVED_BITS
    or row AtVxlan 34 (exactly boolean) (value InfoVxlan.McRoute)  -- IFLA_VXLAN_MC_ROUTE
    or others (value InfoVxlan.Other)) refl refl

-- the family
unfoldable pub attributes : Reading (writing_of table)
attributes = attributes_of table

abbrev pub family : Family InfoVxlan (Unit {0})
family = family_of_table table (λ c. attributes)

-- no attribute has others inside
pub no_looks : (x : Item) (c : Counts) → attributes.looks.Takes x c c
unfolding attributes
no_looks x c = looks-none (λ k. false) enum.parts table.rows refl x c refl
