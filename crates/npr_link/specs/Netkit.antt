-- The data of a pair that runs programs (linux/if_link.h, IFLA_NETKIT_*), by the table.
use Rattle.npr_base.specs.declared.attribute_set.AttributeSet.TheVariants.{InfoNetkit as AtInfoNetkit}
use Rattle.npr_base.specs.Tables.{EnumTable, table_of, row, others, ◌or◌, exactly, boolean, le16, le32, value, seen, refl, Reading, Family, writing_of}
use Rattle.npr_base.specs.Tables.{attributes_of, family_of_table}
use Rattle.npr_link.specs.NetkitMode.{netkit_mode}
use Rattle.npr_link.specs.NetkitPolicy.{netkit_policy}
use Rattle.npr_link.specs.NetkitScrub.{netkit_scrub}
use Rattle.npr_link.specs.Peer.{peer, peer_of}
use Rattle.npr_link.specs.contracts.netkit.InfoNetkit.{enum}
use Rattle.npr_link.specs.declared.netkit.InfoNetkit.{InfoNetkit}

-- the table, in the order of the variants
abbrev pub table : EnumTable enum
table =
    table_of enum (
    row AtInfoNetkit 1 peer (seen peer_of InfoNetkit.Peer)  -- IFLA_NETKIT_PEER_INFO
    or row AtInfoNetkit 2 (exactly boolean) (value InfoNetkit.Primary)  -- IFLA_NETKIT_PRIMARY
    or row AtInfoNetkit 3 (exactly netkit_policy) (value InfoNetkit.Policy)  -- IFLA_NETKIT_POLICY
    or row AtInfoNetkit 4 (exactly netkit_policy) (value InfoNetkit.PeerPolicy)  -- IFLA_NETKIT_PEER_POLICY
    or row AtInfoNetkit 5 (exactly netkit_mode) (value InfoNetkit.Mode)  -- IFLA_NETKIT_MODE
    or row AtInfoNetkit 6 (exactly netkit_scrub) (value InfoNetkit.Scrub)  -- IFLA_NETKIT_SCRUB
    or row AtInfoNetkit 7 (exactly netkit_scrub) (value InfoNetkit.PeerScrub)  -- IFLA_NETKIT_PEER_SCRUB
    or row AtInfoNetkit 8 (exactly le16) (value InfoNetkit.Headroom)  -- IFLA_NETKIT_HEADROOM
    or row AtInfoNetkit 9 (exactly le16) (value InfoNetkit.Tailroom)  -- IFLA_NETKIT_TAILROOM
    or row AtInfoNetkit 10 (exactly le32) (value InfoNetkit.Pairing)  -- IFLA_NETKIT_PAIRING
    or others (value InfoNetkit.Other)) refl refl

-- the family
unfoldable pub attributes : Reading (writing_of table)
attributes = attributes_of table

abbrev pub family : Family InfoNetkit (Unit {0})
family = family_of_table table (λ c. attributes)
