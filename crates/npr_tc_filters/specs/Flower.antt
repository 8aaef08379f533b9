-- The data of a flower filter (linux/pkt_cls.h, TCA_FLOWER_*), by the table.
use Rattle.std.specs.Prelude.{◌≢◌, ℕ, ◌==◌, ◌||◌, Bool, nat_lt}
use Rattle.std.proofs.lemmas.Bool.{ne_eqb}
use Rattle.npr_base.specs.declared.attribute_set.AttributeSet.TheVariants.{TcFilterFlower as AtFlower, TcFilterFlowerMpls as AtMpls, TcActions as AtActions}
use Rattle.npr_base.specs.declared.attribute_set.AttributeSet.TheVariants.{TcFlowerCfm as AtCfm, TcEnc as AtEnc}
use Rattle.npr_base.specs.Counts.{Counts}
use Rattle.npr_base.specs.Framing.{Item, number_of}
use Rattle.npr_base.specs.RowReading.{looks-none}
use Rattle.npr_base.specs.Tables.{EnumTable, table_of, row, others, ◌or◌, be16, be32, byte, exactly, le16, le32, list_of, listed, marked_row}
use Rattle.npr_base.specs.Tables.{name, octets, octets4, octets16, text, value, refl, Reading, Family, writing_of, attributes_of, family_of_table}
use Rattle.npr_tc_actions.specs.Action as OfAction
use Rattle.npr_tc_actions.specs.EncOption as OfEnc
use Rattle.npr_tc_values.specs.Handle.{handle}
use Rattle.npr_tc_filters.specs.FlowerCfm as OfCfm
use Rattle.npr_tc_filters.specs.FlowerMpls as OfMpls
use Rattle.npr_tc_filters.specs.contracts.flower_option.TcFilterFlowerOption.{enum}
use Rattle.npr_tc_filters.specs.declared.flower_option.TcFilterFlowerOption.{TcFilterFlowerOption}

-- the table, in the order of the variants
abbrev pub table : EnumTable enum
table =
    table_of enum (
    row AtFlower 1 (exactly handle) (value TcFilterFlowerOption.ClassId)  -- TCA_FLOWER_CLASSID
    or row AtFlower 2 name (text TcFilterFlowerOption.InDev)  -- TCA_FLOWER_INDEV
    or row AtFlower 3 (list_of AtActions OfAction.attributes) (listed OfAction.family.meaning TcFilterFlowerOption.Actions)  -- TCA_FLOWER_ACT
    or row AtFlower 4 (exactly (octets 6)) (value TcFilterFlowerOption.EthDst)  -- TCA_FLOWER_KEY_ETH_DST
    or row AtFlower 5 (exactly (octets 6)) (value TcFilterFlowerOption.EthDstMask)  -- TCA_FLOWER_KEY_ETH_DST_MASK
    or row AtFlower 6 (exactly (octets 6)) (value TcFilterFlowerOption.EthSrc)  -- TCA_FLOWER_KEY_ETH_SRC
    or row AtFlower 7 (exactly (octets 6)) (value TcFilterFlowerOption.EthSrcMask)  -- TCA_FLOWER_KEY_ETH_SRC_MASK
    or row AtFlower 8 (exactly be16) (value TcFilterFlowerOption.EthType)  -- TCA_FLOWER_KEY_ETH_TYPE
    or row AtFlower 9 (exactly byte) (value TcFilterFlowerOption.IpProto)  -- TCA_FLOWER_KEY_IP_PROTO
    or row AtFlower 10 (exactly octets4) (value TcFilterFlowerOption.Ipv4Src)  -- TCA_FLOWER_KEY_IPV4_SRC
    or row AtFlower 11 (exactly octets4) (value TcFilterFlowerOption.Ipv4SrcMask)  -- TCA_FLOWER_KEY_IPV4_SRC_MASK
    or row AtFlower 12 (exactly octets4) (value TcFilterFlowerOption.Ipv4Dst)  -- TCA_FLOWER_KEY_IPV4_DST
    or row AtFlower 13 (exactly octets4) (value TcFilterFlowerOption.Ipv4DstMask)  -- TCA_FLOWER_KEY_IPV4_DST_MASK
    or row AtFlower 14 (exactly octets16) (value TcFilterFlowerOption.Ipv6Src)  -- TCA_FLOWER_KEY_IPV6_SRC
    or row AtFlower 15 (exactly octets16) (value TcFilterFlowerOption.Ipv6SrcMask)  -- TCA_FLOWER_KEY_IPV6_SRC_MASK
    or row AtFlower 16 (exactly octets16) (value TcFilterFlowerOption.Ipv6Dst)  -- TCA_FLOWER_KEY_IPV6_DST
    or row AtFlower 17 (exactly octets16) (value TcFilterFlowerOption.Ipv6DstMask)  -- TCA_FLOWER_KEY_IPV6_DST_MASK
    or row AtFlower 18 (exactly be16) (value TcFilterFlowerOption.TcpSrc)  -- TCA_FLOWER_KEY_TCP_SRC
    or row AtFlower 19 (exactly be16) (value TcFilterFlowerOption.TcpDst)  -- TCA_FLOWER_KEY_TCP_DST
    or row AtFlower 20 (exactly be16) (value TcFilterFlowerOption.UdpSrc)  -- TCA_FLOWER_KEY_UDP_SRC
    or row AtFlower 21 (exactly be16) (value TcFilterFlowerOption.UdpDst)  -- TCA_FLOWER_KEY_UDP_DST
    or row AtFlower 22 (exactly le32) (value TcFilterFlowerOption.Flags)  -- TCA_FLOWER_FLAGS
    or row AtFlower 23 (exactly le16) (value TcFilterFlowerOption.VlanId)  -- TCA_FLOWER_KEY_VLAN_ID
    or row AtFlower 24 (exactly byte) (value TcFilterFlowerOption.VlanPrio)  -- TCA_FLOWER_KEY_VLAN_PRIO
    or row AtFlower 25 (exactly be16) (value TcFilterFlowerOption.VlanEthType)  -- TCA_FLOWER_KEY_VLAN_ETH_TYPE
    or row AtFlower 26 (exactly be32) (value TcFilterFlowerOption.EncKeyId)  -- TCA_FLOWER_KEY_ENC_KEY_ID
    or row AtFlower 27 (exactly octets4) (value TcFilterFlowerOption.EncKeyIpv4Src)  -- TCA_FLOWER_KEY_ENC_IPV4_SRC
    or row AtFlower 28 (exactly octets4) (value TcFilterFlowerOption.EncKeyIpv4SrcMask)  -- TCA_FLOWER_KEY_ENC_IPV4_SRC_MASK
    or row AtFlower 29 (exactly octets4) (value TcFilterFlowerOption.EncKeyIpv4Dst)  -- TCA_FLOWER_KEY_ENC_IPV4_DST
    or row AtFlower 30 (exactly octets4) (value TcFilterFlowerOption.EncKeyIpv4DstMask)  -- TCA_FLOWER_KEY_ENC_IPV4_DST_MASK
    or row AtFlower 31 (exactly octets16) (value TcFilterFlowerOption.EncKeyIpv6Src)  -- TCA_FLOWER_KEY_ENC_IPV6_SRC
    or row AtFlower 32 (exactly octets16) (value TcFilterFlowerOption.EncKeyIpv6SrcMask)  -- TCA_FLOWER_KEY_ENC_IPV6_SRC_MASK
    or row AtFlower 33 (exactly octets16) (value TcFilterFlowerOption.EncKeyIpv6Dst)  -- TCA_FLOWER_KEY_ENC_IPV6_DST
    or row AtFlower 34 (exactly octets16) (value TcFilterFlowerOption.EncKeyIpv6DstMask)  -- TCA_FLOWER_KEY_ENC_IPV6_DST_MASK
    or row AtFlower 35 (exactly be16) (value TcFilterFlowerOption.TcpSrcMask)  -- TCA_FLOWER_KEY_TCP_SRC_MASK
    or row AtFlower 36 (exactly be16) (value TcFilterFlowerOption.TcpDstMask)  -- TCA_FLOWER_KEY_TCP_DST_MASK
    or row AtFlower 37 (exactly be16) (value TcFilterFlowerOption.UdpSrcMask)  -- TCA_FLOWER_KEY_UDP_SRC_MASK
    or row AtFlower 38 (exactly be16) (value TcFilterFlowerOption.UdpDstMask)  -- TCA_FLOWER_KEY_UDP_DST_MASK
    or row AtFlower 39 (exactly be16) (value TcFilterFlowerOption.SctpSrcMask)  -- TCA_FLOWER_KEY_SCTP_SRC_MASK
    or row AtFlower 40 (exactly be16) (value TcFilterFlowerOption.SctpDstMask)  -- TCA_FLOWER_KEY_SCTP_DST_MASK
    or row AtFlower 41 (exactly be16) (value TcFilterFlowerOption.SctpSrc)  -- TCA_FLOWER_KEY_SCTP_SRC
    or row AtFlower 42 (exactly be16) (value TcFilterFlowerOption.SctpDst)  -- TCA_FLOWER_KEY_SCTP_DST
    or row AtFlower 43 (exactly be16) (value TcFilterFlowerOption.EncKeyUdpSrcPort)  -- TCA_FLOWER_KEY_ENC_UDP_SRC_PORT
    or row AtFlower 44 (exactly be16) (value TcFilterFlowerOption.EncKeyUdpSrcPortMask)  -- TCA_FLOWER_KEY_ENC_UDP_SRC_PORT_MASK
    or row AtFlower 45 (exactly be16) (value TcFilterFlowerOption.EncKeyUdpDstPort)  -- TCA_FLOWER_KEY_ENC_UDP_DST_PORT
    or row AtFlower 46 (exactly be16) (value TcFilterFlowerOption.EncKeyUdpDstPortMask)  -- TCA_FLOWER_KEY_ENC_UDP_DST_PORT_MASK
    or row AtFlower 47 (exactly be32) (value TcFilterFlowerOption.KeyFlags)  -- TCA_FLOWER_KEY_FLAGS
    or row AtFlower 48 (exactly be32) (value TcFilterFlowerOption.KeyFlagsMask)  -- TCA_FLOWER_KEY_FLAGS_MASK
    or row AtFlower 49 (exactly byte) (value TcFilterFlowerOption.Icmpv4Code)  -- TCA_FLOWER_KEY_ICMPV4_CODE
    or row AtFlower 50 (exactly byte) (value TcFilterFlowerOption.Icmpv4CodeMask)  -- TCA_FLOWER_KEY_ICMPV4_CODE_MASK
    or row AtFlower 51 (exactly byte) (value TcFilterFlowerOption.Icmpv4Type)  -- TCA_FLOWER_KEY_ICMPV4_TYPE
    or row AtFlower 52 (exactly byte) (value TcFilterFlowerOption.Icmpv4TypeMask)  -- TCA_FLOWER_KEY_ICMPV4_TYPE_MASK
    or row AtFlower 53 (exactly byte) (value TcFilterFlowerOption.Icmpv6Code)  -- TCA_FLOWER_KEY_ICMPV6_CODE
    or row AtFlower 54 (exactly byte) (value TcFilterFlowerOption.Icmpv6CodeMask)  -- TCA_FLOWER_KEY_ICMPV6_CODE_MASK
    or row AtFlower 55 (exactly byte) (value TcFilterFlowerOption.Icmpv6Type)  -- TCA_FLOWER_KEY_ICMPV6_TYPE
    or row AtFlower 56 (exactly byte) (value TcFilterFlowerOption.Icmpv6TypeMask)  -- TCA_FLOWER_KEY_ICMPV6_TYPE_MASK
    or row AtFlower 57 (exactly octets4) (value TcFilterFlowerOption.ArpSip)  -- TCA_FLOWER_KEY_ARP_SIP
    or row AtFlower 58 (exactly octets4) (value TcFilterFlowerOption.ArpSipMask)  -- TCA_FLOWER_KEY_ARP_SIP_MASK
    or row AtFlower 59 (exactly octets4) (value TcFilterFlowerOption.ArpTip)  -- TCA_FLOWER_KEY_ARP_TIP
    or row AtFlower 60 (exactly octets4) (value TcFilterFlowerOption.ArpTipMask)  -- TCA_FLOWER_KEY_ARP_TIP_MASK
    or row AtFlower 61 (exactly byte) (value TcFilterFlowerOption.ArpOp)  -- TCA_FLOWER_KEY_ARP_OP
    or row AtFlower 62 (exactly byte) (value TcFilterFlowerOption.ArpOpMask)  -- TCA_FLOWER_KEY_ARP_OP_MASK
    or row AtFlower 63 (exactly (octets 6)) (value TcFilterFlowerOption.ArpSha)  -- TCA_FLOWER_KEY_ARP_SHA
    or row AtFlower 64 (exactly (octets 6)) (value TcFilterFlowerOption.ArpShaMask)  -- TCA_FLOWER_KEY_ARP_SHA_MASK
    or row AtFlower 65 (exactly (octets 6)) (value TcFilterFlowerOption.ArpTha)  -- TCA_FLOWER_KEY_ARP_THA
    or row AtFlower 66 (exactly (octets 6)) (value TcFilterFlowerOption.ArpThaMask)  -- TCA_FLOWER_KEY_ARP_THA_MASK
    or row AtFlower 67 (exactly byte) (value TcFilterFlowerOption.MplsTtl)  -- TCA_FLOWER_KEY_MPLS_TTL
    or row AtFlower 68 (exactly byte) (value TcFilterFlowerOption.MplsBos)  -- TCA_FLOWER_KEY_MPLS_BOS
    or row AtFlower 69 (exactly byte) (value TcFilterFlowerOption.MplsTc)  -- TCA_FLOWER_KEY_MPLS_TC
    or row AtFlower 70 (exactly le32) (value TcFilterFlowerOption.MplsLabel)  -- TCA_FLOWER_KEY_MPLS_LABEL
    or row AtFlower 71 (exactly be16) (value TcFilterFlowerOption.TcpFlags)  -- TCA_FLOWER_KEY_TCP_FLAGS
    or row AtFlower 72 (exactly be16) (value TcFilterFlowerOption.TcpFlagsMask)  -- TCA_FLOWER_KEY_TCP_FLAGS_MASK
    or row AtFlower 73 (exactly byte) (value TcFilterFlowerOption.IpTos)  -- TCA_FLOWER_KEY_IP_TOS
    or row AtFlower 74 (exactly byte) (value TcFilterFlowerOption.IpTosMask)  -- TCA_FLOWER_KEY_IP_TOS_MASK
    or row AtFlower 75 (exactly byte) (value TcFilterFlowerOption.IpTtl)  -- TCA_FLOWER_KEY_IP_TTL
    or row AtFlower 76 (exactly byte) (value TcFilterFlowerOption.IpTtlMask)  -- TCA_FLOWER_KEY_IP_TTL_MASK
    or row AtFlower 77 (exactly le16) (value TcFilterFlowerOption.CvlanId)  -- TCA_FLOWER_KEY_CVLAN_ID
    or row AtFlower 78 (exactly byte) (value TcFilterFlowerOption.CvlanPrio)  -- TCA_FLOWER_KEY_CVLAN_PRIO
    or row AtFlower 79 (exactly be16) (value TcFilterFlowerOption.CvlanEthType)  -- TCA_FLOWER_KEY_CVLAN_ETH_TYPE
    or row AtFlower 80 (exactly byte) (value TcFilterFlowerOption.EncKeyIpTos)  -- TCA_FLOWER_KEY_ENC_IP_TOS
    or row AtFlower 81 (exactly byte) (value TcFilterFlowerOption.EncKeyIpTosMask)  -- TCA_FLOWER_KEY_ENC_IP_TOS_MASK
    or row AtFlower 82 (exactly byte) (value TcFilterFlowerOption.EncKeyIpTtl)  -- TCA_FLOWER_KEY_ENC_IP_TTL
    or row AtFlower 83 (exactly byte) (value TcFilterFlowerOption.EncKeyIpTtlMask)  -- TCA_FLOWER_KEY_ENC_IP_TTL_MASK
    or row AtFlower 84 (list_of AtEnc OfEnc.attributes) (listed OfEnc.family.meaning TcFilterFlowerOption.EncOpts)  -- TCA_FLOWER_KEY_ENC_OPTS
    or row AtFlower 85 (list_of AtEnc OfEnc.attributes) (listed OfEnc.family.meaning TcFilterFlowerOption.EncOptsMask)  -- TCA_FLOWER_KEY_ENC_OPTS_MASK
    or row AtFlower 86 (exactly le32) (value TcFilterFlowerOption.InHwCount)  -- TCA_FLOWER_IN_HW_COUNT
    or row AtFlower 87 (exactly be16) (value TcFilterFlowerOption.PortSrcMin)  -- TCA_FLOWER_KEY_PORT_SRC_MIN
    or row AtFlower 88 (exactly be16) (value TcFilterFlowerOption.PortSrcMax)  -- TCA_FLOWER_KEY_PORT_SRC_MAX
    or row AtFlower 89 (exactly be16) (value TcFilterFlowerOption.PortDstMin)  -- TCA_FLOWER_KEY_PORT_DST_MIN
    or row AtFlower 90 (exactly be16) (value TcFilterFlowerOption.PortDstMax)  -- TCA_FLOWER_KEY_PORT_DST_MAX
    or row AtFlower 91 (exactly le16) (value TcFilterFlowerOption.CtState)  -- TCA_FLOWER_KEY_CT_STATE
    or row AtFlower 92 (exactly le16) (value TcFilterFlowerOption.CtStateMask)  -- TCA_FLOWER_KEY_CT_STATE_MASK
    or row AtFlower 93 (exactly le16) (value TcFilterFlowerOption.CtZone)  -- TCA_FLOWER_KEY_CT_ZONE
    or row AtFlower 94 (exactly le16) (value TcFilterFlowerOption.CtZoneMask)  -- TCA_FLOWER_KEY_CT_ZONE_MASK
    or row AtFlower 95 (exactly le32) (value TcFilterFlowerOption.CtMark)  -- TCA_FLOWER_KEY_CT_MARK
    or row AtFlower 96 (exactly le32) (value TcFilterFlowerOption.CtMarkMask)  -- TCA_FLOWER_KEY_CT_MARK_MASK
    or row AtFlower 97 (exactly (octets 16)) (value TcFilterFlowerOption.CtLabels)  -- TCA_FLOWER_KEY_CT_LABELS
    or row AtFlower 98 (exactly (octets 16)) (value TcFilterFlowerOption.CtLabelsMask)  -- TCA_FLOWER_KEY_CT_LABELS_MASK
    or marked_row AtFlower 99 (list_of AtMpls OfMpls.attributes) (listed OfMpls.family.meaning TcFilterFlowerOption.MplsOpts)  -- TCA_FLOWER_KEY_MPLS_OPTS
    or row AtFlower 100 (exactly le32) (value TcFilterFlowerOption.KeyHash)  -- TCA_FLOWER_KEY_HASH
    or row AtFlower 101 (exactly le32) (value TcFilterFlowerOption.KeyHashMask)  -- TCA_FLOWER_KEY_HASH_MASK
    or row AtFlower 102 (exactly byte) (value TcFilterFlowerOption.NumOfVlans)  -- TCA_FLOWER_KEY_NUM_OF_VLANS
    or row AtFlower 103 (exactly be16) (value TcFilterFlowerOption.PppoeSid)  -- TCA_FLOWER_KEY_PPPOE_SID
    or row AtFlower 104 (exactly be16) (value TcFilterFlowerOption.PppProto)  -- TCA_FLOWER_KEY_PPP_PROTO
    or row AtFlower 105 (exactly be32) (value TcFilterFlowerOption.L2tpv3Sid)  -- TCA_FLOWER_KEY_L2TPV3_SID
    or row AtFlower 106 (exactly byte) (value TcFilterFlowerOption.L2Miss)  -- TCA_FLOWER_L2_MISS
    or marked_row AtFlower 107 (list_of AtCfm OfCfm.attributes) (listed OfCfm.family.meaning TcFilterFlowerOption.Cfm)  -- TCA_FLOWER_KEY_CFM
    or row AtFlower 108 (exactly be32) (value TcFilterFlowerOption.Spi)  -- TCA_FLOWER_KEY_SPI
    or row AtFlower 109 (exactly be32) (value TcFilterFlowerOption.SpiMask)  -- TCA_FLOWER_KEY_SPI_MASK
    or row AtFlower 110 (exactly be32) (value TcFilterFlowerOption.EncFlags)  -- TCA_FLOWER_KEY_ENC_FLAGS
    or row AtFlower 111 (exactly be32) (value TcFilterFlowerOption.EncFlagsMask)  -- TCA_FLOWER_KEY_ENC_FLAGS_MASK
    or others (value TcFilterFlowerOption.Other)) refl refl

-- the family
unfoldable pub attributes : Reading (writing_of table)
attributes = attributes_of table

abbrev pub family : Family TcFilterFlowerOption (Unit {0})
family = family_of_table table (λ c. attributes)

-- whether a number is that of no row
abbrev pub no_row : ℕ → Bool
no_row number = number == 0 || nat_lt 111 number

-- the numbers of those with attributes inside
abbrev pub is_list : ℕ → Bool
is_list number = number == 3 || (number == 84 || (number == 85 || (number == 99 || number == 107)))

-- and of all others
abbrev pub IsFlat : ℕ → Type 0
IsFlat number = (number ≢ 3) × (number ≢ 84) × (number ≢ 85) × (number ≢ 99) × (number ≢ 107)

pub no_looks : (x : Item) (c : Counts) → (number_of x.kind ≢ 3) → (number_of x.kind ≢ 84) → (number_of x.kind ≢ 85)
    → (number_of x.kind ≢ 99) → (number_of x.kind ≢ 107) → attributes.looks.Takes x c c
unfolding attributes
no_looks x c o p q r s =
    looks-none is_list enum.parts table.rows refl x c
    (rw (
      ne_eqb (number_of x.kind) 3 o,
      ne_eqb (number_of x.kind) 84 p,
      ne_eqb (number_of x.kind) 85 q,
      ne_eqb (number_of x.kind) 99 r,
      ne_eqb (number_of x.kind) 107 s,
    ))
