-- An attribute of the other end of a pair, as a request for the pair has it (linux/if_link.h, IFLA_*), by the table.
use Rattle.npr_base.specs.declared.attribute_set.AttributeSet.TheVariants.{Peer as AtPeerAttribute}
use Rattle.npr_base.specs.Tables.{EnumTable, table_of, row, others, ◌or◌, exactly, items, le32, name, raw, signed32, text, value, refl, Reading, Family}
use Rattle.npr_base.specs.Tables.{writing_of, attributes_of}
use Rattle.npr_base.specs.Tables.{family_of_table}
use Rattle.npr_link.specs.LinkMode.{link_mode}
use Rattle.npr_link.specs.State.{state}
use Rattle.npr_link.specs.contracts.peer_attribute.PeerAttribute.{enum}
use Rattle.npr_link.specs.declared.peer_attribute.PeerAttribute.{PeerAttribute}

-- the table, in the order of the variants
abbrev pub table : EnumTable enum
table =
    table_of enum (
    row AtPeerAttribute 1 raw (items PeerAttribute.Address)  -- IFLA_ADDRESS
    or row AtPeerAttribute 2 raw (items PeerAttribute.Broadcast)  -- IFLA_BROADCAST
    or row AtPeerAttribute 3 name (text PeerAttribute.IfName)  -- IFLA_IFNAME
    or row AtPeerAttribute 4 (exactly le32) (value PeerAttribute.Mtu)  -- IFLA_MTU
    or row AtPeerAttribute 13 (exactly le32) (value PeerAttribute.TxQueueLen)  -- IFLA_TXQLEN
    or row AtPeerAttribute 16 (exactly state) (value PeerAttribute.OperState)  -- IFLA_OPERSTATE
    or row AtPeerAttribute 17 (exactly link_mode) (value PeerAttribute.Mode)  -- IFLA_LINKMODE
    or row AtPeerAttribute 19 (exactly le32) (value PeerAttribute.NetNsPid)  -- IFLA_NET_NS_PID
    or row AtPeerAttribute 27 (exactly le32) (value PeerAttribute.Group)  -- IFLA_GROUP
    or row AtPeerAttribute 28 (exactly signed32) (value PeerAttribute.NetNsFd)  -- IFLA_NET_NS_FD
    or row AtPeerAttribute 31 (exactly le32) (value PeerAttribute.NumTxQueues)  -- IFLA_NUM_TX_QUEUES
    or row AtPeerAttribute 32 (exactly le32) (value PeerAttribute.NumRxQueues)  -- IFLA_NUM_RX_QUEUES
    or row AtPeerAttribute 40 (exactly le32) (value PeerAttribute.GsoMaxSegs)  -- IFLA_GSO_MAX_SEGS
    or row AtPeerAttribute 41 (exactly le32) (value PeerAttribute.GsoMaxSize)  -- IFLA_GSO_MAX_SIZE
    or row AtPeerAttribute 46 (exactly signed32) (value PeerAttribute.IfNetnsId)  -- IFLA_IF_NETNSID
    or row AtPeerAttribute 58 (exactly le32) (value PeerAttribute.GroMaxSize)  -- IFLA_GRO_MAX_SIZE
    or row AtPeerAttribute 63 (exactly le32) (value PeerAttribute.GsoIpv4MaxSize)  -- IFLA_GSO_IPV4_MAX_SIZE
    or row AtPeerAttribute 64 (exactly le32) (value PeerAttribute.GroIpv4MaxSize)  -- IFLA_GRO_IPV4_MAX_SIZE
    or others (value PeerAttribute.Other)) refl refl

-- the family
unfoldable pub attributes : Reading (writing_of table)
attributes = attributes_of table

abbrev pub family : Family PeerAttribute (Unit {0})
family = family_of_table table (λ c. attributes)
