-- What `==` answers of headers, structures and attributes: whether two are equal, or mean the same.
use Rattle.std.specs.Cmp.{unsigned_Decides}
use Rattle.std.proofs.Common.{refl}
use Rattle.npr_base.proofs.AddressFamilyLaws.{family_equality}
use Rattle.npr_base.proofs.EqualityLaws.{one_equality}
use Rattle.npr_base.proofs.FieldEquality.{one, list, number, kept}
use Rattle.npr_base.proofs.StructLaws.{◌beside◌, struct_equality}
use Rattle.npr_base.specs.EnumTable.{◌also◌}
use Rattle.npr_base.specs.Equality.{IsEquality, IsEqualityOf}
use Rattle.npr_base.specs.Tables.{table_decides}
use Rattle.npr_link_statistics.proofs.EqualityLaws.{each, parts_equality, same_parts, stats64_equality}
use Rattle.npr_link_statistics.specs.Grown.{parts}
use Rattle.npr_stats.specs.BridgeMulticastStats.{bridge_multicast_stats}
use Rattle.npr_stats.specs.contracts.bridge_multicast_stats.BridgeMulticastStatsPartialEq.TheImpl as BridgeMulticastStatsEq
use Rattle.npr_stats.specs.contracts.header.StatsHeader.{struct as header_struct}
use Rattle.npr_stats.specs.contracts.header.StatsHeaderPartialEq.TheImpl as HeaderEq
use Rattle.npr_stats.specs.contracts.header.StatsMessageBuffer.{struct as header_buffer_struct}
use Rattle.npr_stats.specs.contracts.header.StatsMessageBufferPartialEq.TheImpl as HeaderBufferEq
use Rattle.npr_stats.specs.contracts.bridge_vlan_xstats.BridgeVlanXstats.{struct as bridge_vlan_xstats_struct}
use Rattle.npr_stats.specs.contracts.bridge_vlan_xstats.BridgeVlanXstatsPartialEq.TheImpl as BridgeVlanXstatsEq
use Rattle.npr_stats.specs.contracts.bridge_stp_xstats.BridgeStpXstats.{struct as bridge_stp_xstats_struct}
use Rattle.npr_stats.specs.contracts.bridge_stp_xstats.BridgeStpXstatsPartialEq.TheImpl as BridgeStpXstatsEq
use Rattle.npr_stats.specs.contracts.hw_stats64.HwStats64.{struct as hw_stats64_struct}
use Rattle.npr_stats.specs.contracts.hw_stats64.HwStats64PartialEq.TheImpl as HwStats64Eq
use Rattle.npr_stats.specs.contracts.mpls_link_stats.MplsLinkStats.{struct as mpls_link_stats_struct}
use Rattle.npr_stats.specs.contracts.mpls_link_stats.MplsLinkStatsPartialEq.TheImpl as MplsLinkStatsEq
use Rattle.npr_stats.specs.Attribute as OfAttribute
use Rattle.npr_stats.specs.contracts.attribute.StatsAttributePartialEq.TheImpl as StatsAttributeEq
use Rattle.npr_stats.specs.LinkXstats as OfLinkXstats
use Rattle.npr_stats.specs.contracts.link_xstats.LinkXstatsPartialEq.TheImpl as LinkXstatsEq
use Rattle.npr_stats.specs.BridgeXstats as OfBridgeXstats
use Rattle.npr_stats.specs.contracts.bridge_xstats.BridgeXstatsPartialEq.TheImpl as BridgeXstatsEq
use Rattle.npr_stats.specs.BondXstats as OfBondXstats
use Rattle.npr_stats.specs.contracts.bond_xstats.BondXstatsPartialEq.TheImpl as BondXstatsEq
use Rattle.npr_stats.specs.BondAdStat as OfBondAdStat
use Rattle.npr_stats.specs.contracts.bond_ad_stat.BondAdStatPartialEq.TheImpl as BondAdStatEq
use Rattle.npr_stats.specs.OffloadXstats as OfOffloadXstats
use Rattle.npr_stats.specs.contracts.offload_xstats.OffloadXstatsPartialEq.TheImpl as OffloadXstatsEq
use Rattle.npr_stats.specs.OffloadHwInfo as OfOffloadHwInfo
use Rattle.npr_stats.specs.contracts.offload_hw_info.OffloadHwInfoPartialEq.TheImpl as OffloadHwInfoEq
use Rattle.npr_stats.specs.OffloadHwState as OfOffloadHwState
use Rattle.npr_stats.specs.contracts.offload_hw_state.OffloadHwStatePartialEq.TheImpl as OffloadHwStateEq
use Rattle.npr_stats.specs.AfSpec as OfAfSpec
use Rattle.npr_stats.specs.contracts.af_spec.StatsAfSpecPartialEq.TheImpl as StatsAfSpecEq
use Rattle.npr_stats.specs.MplsStats as OfMplsStats
use Rattle.npr_stats.specs.contracts.mpls_stats.MplsStatsPartialEq.TheImpl as MplsStatsEq

-- ---- values

pub header_equality : IsEquality HeaderEq.ghosts.eq
header_equality =
    struct_equality header_struct (λ v. tt) (λ d. refl)
    (family_equality beside unsigned_Decides beside one_equality unsigned_Decides)

pub header_buffer_equality : IsEquality HeaderBufferEq.ghosts.eq
header_buffer_equality =
    struct_equality header_buffer_struct (λ v. tt) (λ d. refl)
    (unsigned_Decides beside unsigned_Decides beside one_equality unsigned_Decides)

pub bridge_vlan_xstats_equality : IsEquality BridgeVlanXstatsEq.ghosts.eq
bridge_vlan_xstats_equality =
    struct_equality bridge_vlan_xstats_struct (λ v. tt) (λ d. refl)
    (unsigned_Decides beside unsigned_Decides beside unsigned_Decides beside unsigned_Decides beside unsigned_Decides
    beside one_equality unsigned_Decides)

pub bridge_stp_xstats_equality : IsEquality BridgeStpXstatsEq.ghosts.eq
bridge_stp_xstats_equality =
    struct_equality bridge_stp_xstats_struct (λ v. tt) (λ d. refl)
    (unsigned_Decides beside unsigned_Decides beside unsigned_Decides beside unsigned_Decides beside unsigned_Decides
    beside one_equality unsigned_Decides)

pub hw_stats64_equality : IsEquality HwStats64Eq.ghosts.eq
hw_stats64_equality =
    struct_equality hw_stats64_struct (λ v. tt) (λ d. refl)
    (unsigned_Decides beside unsigned_Decides beside unsigned_Decides beside unsigned_Decides beside unsigned_Decides beside unsigned_Decides
    beside unsigned_Decides beside unsigned_Decides beside one_equality unsigned_Decides)

pub mpls_link_stats_equality : IsEquality MplsLinkStatsEq.ghosts.eq
mpls_link_stats_equality =
    struct_equality mpls_link_stats_struct (λ v. tt) (λ d. refl)
    (unsigned_Decides beside unsigned_Decides beside unsigned_Decides beside unsigned_Decides beside unsigned_Decides beside unsigned_Decides
    beside unsigned_Decides beside unsigned_Decides beside one_equality unsigned_Decides)

pub bridge_multicast_stats_equality : IsEqualityOf (parts bridge_multicast_stats) BridgeMulticastStatsEq.ghosts.eq
unfolding bridge_multicast_stats each same_parts
bridge_multicast_stats_equality = parts_equality unsigned_Decides bridge_multicast_stats

-- ---- sets

pub bond_ad_stat_equality : IsEqualityOf OfBondAdStat.family.meaning BondAdStatEq.ghosts.eq
bond_ad_stat_equality =
    table_decides OfBondAdStat.table _
    (number also number also number also number also number also number also number also number also number also kept also tt)

pub bond_xstats_equality : IsEqualityOf OfBondXstats.family.meaning BondXstatsEq.ghosts.eq
bond_xstats_equality =
    table_decides OfBondXstats.table _
    (list bond_ad_stat_equality also kept also tt)

pub bridge_xstats_equality : IsEqualityOf OfBridgeXstats.family.meaning BridgeXstatsEq.ghosts.eq
bridge_xstats_equality =
    table_decides OfBridgeXstats.table _
    (one bridge_vlan_xstats_equality also one bridge_multicast_stats_equality also one bridge_stp_xstats_equality also kept also tt)

pub link_xstats_equality : IsEqualityOf OfLinkXstats.family.meaning LinkXstatsEq.ghosts.eq
link_xstats_equality =
    table_decides OfLinkXstats.table _
    (list bridge_xstats_equality also list bond_xstats_equality also kept also tt)

pub offload_hw_state_equality : IsEqualityOf OfOffloadHwState.family.meaning OffloadHwStateEq.ghosts.eq
offload_hw_state_equality =
    table_decides OfOffloadHwState.table _
    (number also number also kept also tt)

pub offload_hw_info_equality : IsEqualityOf OfOffloadHwInfo.family.meaning OffloadHwInfoEq.ghosts.eq
offload_hw_info_equality =
    table_decides OfOffloadHwInfo.table _
    (list offload_hw_state_equality also kept also tt)

pub offload_xstats_equality : IsEqualityOf OfOffloadXstats.family.meaning OffloadXstatsEq.ghosts.eq
offload_xstats_equality =
    table_decides OfOffloadXstats.table _
    (one stats64_equality also list offload_hw_info_equality also one hw_stats64_equality also kept also tt)

pub mpls_stats_equality : IsEqualityOf OfMplsStats.family.meaning MplsStatsEq.ghosts.eq
mpls_stats_equality =
    table_decides OfMplsStats.table _
    (one mpls_link_stats_equality also kept also tt)

pub af_spec_equality : IsEqualityOf OfAfSpec.family.meaning StatsAfSpecEq.ghosts.eq
af_spec_equality =
    table_decides OfAfSpec.table _
    (list mpls_stats_equality also kept also tt)

pub attribute_equality : IsEqualityOf OfAttribute.family.meaning StatsAttributeEq.ghosts.eq
attribute_equality =
    table_decides OfAttribute.table _
    (one stats64_equality also list link_xstats_equality also list link_xstats_equality also list offload_xstats_equality
    also list af_spec_equality also kept also tt)
