-- What the attributes of each set mean, under what their numbers rest on.
--     no_context       what nothing rests on
--     reading_by       what the attributes of a set mean under a context
use Rattle.npr_base.specs.Nesting.{AnyReading, any_reading}
use Rattle.npr_base.specs.declared.address_family.AddressFamily.TheVariants.{Unspec}
use Rattle.npr_base.specs.declared.attribute_set.AttributeSet.{AttributeSet}
use Rattle.npr_base.specs.declared.attribute_set.AttributeSet.TheVariants as At
use Rattle.npr_address.specs.Attribute as OfAddress
use Rattle.npr_link.specs.Netkit as OfNetkit
use Rattle.npr_link_devices.specs.AdInfo as OfAdInfo
use Rattle.npr_link_devices.specs.Bond as OfBond
use Rattle.npr_link_devices.specs.BondPort as OfBondPort
use Rattle.npr_link_devices.specs.IpVlan as OfIpVlan
use Rattle.npr_link_devices.specs.MacVlan as OfMacVlan
use Rattle.npr_link_devices.specs.MacVlanAddress as OfMacVlanAddress
use Rattle.npr_link_devices.specs.Tun as OfTun
use Rattle.npr_link_tunnels.specs.Geneve as OfLinkGeneve
use Rattle.npr_link_tunnels.specs.Gre as OfGre
use Rattle.npr_link_tunnels.specs.Gre6 as OfGre6
use Rattle.npr_link_tunnels.specs.IpTunnel as OfIpTunnel
use Rattle.npr_link_tunnels.specs.Vti as OfVti
use Rattle.npr_link_tunnels.specs.Vxlan as OfLinkVxlan
use Rattle.npr_link_tunnels.specs.Xfrm as OfLinkXfrm
use Rattle.npr_link.specs.AfSpec as OfAfSpec
use Rattle.npr_link.specs.AfSpecInet as OfAfSpecInet
use Rattle.npr_link.specs.AfSpecInet6 as OfAfSpecInet6
use Rattle.npr_link.specs.Attribute as OfLink
use Rattle.npr_link_bridge.specs.AfSpecBridge as OfAfBridge
use Rattle.npr_link_bridge.specs.Bridge as OfBridge
use Rattle.npr_link_bridge.specs.BridgePort as OfBridgePort
use Rattle.npr_link.specs.Info as OfInfo
use Rattle.npr_link.specs.PeerAttribute as OfPeer
use Rattle.npr_link.specs.Prop as OfProp
use Rattle.npr_link.specs.ProtocolDown as OfReason
use Rattle.npr_link_bridge.specs.Mst as OfMst
use Rattle.npr_link_bridge.specs.MstEntry as OfMstEntry
use Rattle.npr_link_bridge.specs.QuerierState as OfQuerier
use Rattle.npr_link_bridge.specs.VlanTunnel as OfVlanTunnel
use Rattle.npr_link.specs.Veth as OfVeth
use Rattle.npr_link.specs.Vlan as OfVlan
use Rattle.npr_link.specs.VlanQos as OfVlanQos
use Rattle.npr_link.specs.Vrf as OfVrf
use Rattle.npr_link.specs.Xdp as OfXdp
use Rattle.npr_neighbour.specs.Attribute as OfNeighbour
use Rattle.npr_nexthop.specs.Attribute as OfNextHopMessage
use Rattle.npr_nexthop.specs.GroupStats as OfGroupStats
use Rattle.npr_nexthop.specs.GroupStatsEntry as OfGroupStatsEntry
use Rattle.npr_nexthop.specs.ResBucket as OfResBucket
use Rattle.npr_nexthop.specs.ResGroup as OfResGroup
use Rattle.npr_route.specs.AttributeFamily as OfRoute
use Rattle.npr_route.specs.Metric as OfMetric
use Rattle.npr_rule.specs.Attribute as OfRule
use Rattle.npr_address.specs.AddressLabelAttribute as OfAddressLabel
use Rattle.npr_neighbour.specs.NeighbourTableAttribute as OfNeighbourTable
use Rattle.npr_neighbour.specs.NeighbourTableParameter as OfNeighbourTableParameter
use Rattle.npr_namespace.specs.NetconfAttribute as OfNetconf
use Rattle.npr_namespace.specs.NsidAttribute as OfNsid
use Rattle.npr_address.specs.PrefixAttribute as OfPrefix
use Rattle.npr_tc.specs.ActionAttribute as OfTcActionMessage
use Rattle.npr_tc.specs.Attribute as OfTc
use Rattle.npr_tc_actions.specs.Action as OfTcActions
use Rattle.npr_tc_actions.specs.Attribute as OfTcAction
use Rattle.npr_tc_actions.specs.MirrorOption as OfTcMirror
use Rattle.npr_tc_actions.specs.NatOption as OfTcNat
use Rattle.npr_tc_actions.specs.TunnelKeyOption as OfTcTunnelKey
use Rattle.npr_tc_actions.specs.declared.form.TcActionForm.TheVariants.{Kept as ActionKept}
use Rattle.npr_tc_filters.specs.Flower as OfTcFlower
use Rattle.npr_tc_filters.specs.FlowerMpls as OfTcMpls
use Rattle.npr_tc_filters.specs.FlowerMplsLse as OfTcMplsLse
use Rattle.npr_tc_filters.specs.MatchAll as OfTcMatchAll
use Rattle.npr_tc_filters.specs.U32Option as OfTcU32
use Rattle.npr_tc_actions.specs.BpfOption as OfTcBpf
use Rattle.npr_tc_actions.specs.CsumOption as OfTcCsum
use Rattle.npr_tc_actions.specs.CtOption as OfTcCt
use Rattle.npr_tc_actions.specs.GactOption as OfTcGact
use Rattle.npr_tc_actions.specs.PoliceOption as OfTcPolice
use Rattle.npr_tc_actions.specs.SampleOption as OfTcSample
use Rattle.npr_tc_actions.specs.SkbeditOption as OfTcSkbedit
use Rattle.npr_tc_actions.specs.VlanOption as OfTcVlan
use Rattle.npr_tc_filters.specs.Bpf as OfTcFilterBpf
use Rattle.npr_tc_filters.specs.Fw as OfTcFw
use Rattle.npr_tc_qdiscs.specs.Fq as OfTcFq
use Rattle.npr_tc_qdiscs.specs.Htb as OfTcHtb
use Rattle.npr_tc_qdiscs.specs.NetemLoss as OfTcNetemLoss
use Rattle.npr_tc_qdiscs.specs.NetemOption as OfTcNetem
use Rattle.npr_tc_qdiscs.specs.Red as OfTcRed
use Rattle.npr_tc_qdiscs.specs.Tbf as OfTcTbf
use Rattle.npr_tc_qdiscs.specs.FqCodel as OfTcFqCodel
use Rattle.npr_tc_qdiscs.specs.Ingress as OfTcIngress
use Rattle.npr_tc_qdiscs.specs.Stab as OfTcStab
use Rattle.npr_tc_values.specs.Stats2 as OfTcStats2
use Rattle.npr_tc_values.specs.declared.form.TcForm.TheVariants.{Kept as TcKept}
use Rattle.npr_neighbour.specs.Fdb as OfFdb
use Rattle.npr_link.specs.AfSpecMctp as OfAfSpecMctp
use Rattle.npr_link.specs.DpllPin as OfPin
use Rattle.npr_link_devices.specs.Hsr as OfHsr
use Rattle.npr_link_devices.specs.Ipoib as OfIpoib
use Rattle.npr_link_devices.specs.MacSec as OfMacSec
use Rattle.npr_link_tunnels.specs.Gtp as OfGtp
use Rattle.npr_link_tunnels.specs.Ovpn as OfOvpn
use Rattle.npr_link_functions.specs.LinkVfInfo as OfLinkVfInfo
use Rattle.npr_link_functions.specs.VfInfo as OfVfInfo
use Rattle.npr_link_functions.specs.VfStats as OfVfStats
use Rattle.npr_link_functions.specs.VfVlanList as OfVfVlan
use Rattle.npr_link_functions.specs.LinkVfPort as OfLinkVfPort
use Rattle.npr_link_functions.specs.VfPort as OfVfPort
use Rattle.npr_stats.specs.Attribute as OfStats
use Rattle.npr_stats.specs.LinkXstats as OfLinkXstats
use Rattle.npr_stats.specs.BridgeXstats as OfBridgeXstats
use Rattle.npr_stats.specs.BondXstats as OfBondXstats
use Rattle.npr_stats.specs.BondAdStat as OfBondAdStat
use Rattle.npr_stats.specs.OffloadXstats as OfOffloadXstats
use Rattle.npr_stats.specs.OffloadHwInfo as OfOffloadHwInfo
use Rattle.npr_stats.specs.OffloadHwState as OfOffloadHwState
use Rattle.npr_stats.specs.AfSpec as OfStatsAfSpec
use Rattle.npr_stats.specs.MplsStats as OfMplsStats
use Rattle.npr_tc_qdiscs.specs.Cake as OfTcCake
use Rattle.npr_tc_values.specs.CakeStat as OfTcCakeStat
use Rattle.npr_tc_values.specs.CakeTinStat as OfTcCakeTinStat
use Rattle.npr_tc_qdiscs.specs.MqprioOption as OfTcMqprio
use Rattle.npr_tc_qdiscs.specs.MqprioEntry as OfTcMqprioEntry
use Rattle.npr_tc_filters.specs.Basic as OfTcBasic
use Rattle.npr_tc_filters.specs.EmatchTree as OfTcEmatchTree
use Rattle.npr_tc_filters.specs.FlowerCfm as OfTcCfm
use Rattle.npr_tc_actions.specs.EncOption as OfTcEnc
use Rattle.npr_tc_actions.specs.EncGeneve as OfTcEncGeneve
use Rattle.npr_tc_actions.specs.EncVxlan as OfTcEncVxlan
use Rattle.npr_tc_actions.specs.EncErspan as OfTcEncErspan
use Rattle.npr_tc_actions.specs.EncGtp as OfTcEncGtp
use Rattle.npr_tc_actions.specs.EncPfcp as OfTcEncPfcp
use Rattle.npr_tc_actions.specs.PeditOption as OfTcPedit
use Rattle.npr_tc_actions.specs.PeditKeysEx as OfTcPeditKeysEx
use Rattle.npr_tc_actions.specs.PeditKeyEx as OfTcPeditKeyEx
use Rattle.npr_tc_values.specs.CakeTin as OfTcTins
use Rattle.npr_tc_filters.specs.Ematch as OfTcEmatches
use Rattle.npr_encapsulation.specs.Encapsulation as OfEncap
use Rattle.npr_encapsulation.specs.ErspanOptions as OfErspan
use Rattle.npr_encapsulation.specs.TunnelOptions as OfOption
use Rattle.npr_encapsulation.specs.VxlanOptions as OfVxlan
use Rattle.npr_link.specs.declared.port_kind.InfoPortForm.TheVariants.{Kept as PortKept}
use Rattle.npr_link_tunnels.specs.declared.form.InfoForm.TheVariants.{Kept}
use Rattle.npr_route_values.specs.declared.route_type.RouteType.TheVariants.{Unspec as NoType}
use Rattle.npr_encapsulation.specs.declared.encap_type.RouteLwEnCapType.TheVariants as Tunnel
use Rattle.netlink_packet_route.specs.declared.context.Context.{Context}

-- what nothing rests on
abbrev pub no_context : Context
no_context = record {
  family = Unspec;
  route_type = NoType;
  encap_type = Tunnel.None;
  link = Kept;
  port = PortKept;
  tc = TcKept;
  tc_action = ActionKept;
}

-- a set without a list of its own is read as what an encapsulation without a type holds
abbrev pub reading_by : AttributeSet → Context → AnyReading
reading_by At.Address c = any_reading (OfAddress.family.reading tt)
reading_by At.Rule c = any_reading (OfRule.family.reading tt)
reading_by At.Route c = any_reading (OfRoute.attributes (c.family, c.route_type, c.encap_type))
reading_by At.Neighbour c = any_reading (OfNeighbour.family.reading c.family)
reading_by At.Link c = any_reading (OfLink.attributes c.family)
reading_by At.Metric c = any_reading OfMetric.attributes
reading_by At.Encap c = any_reading (OfEncap.encapsulation c.encap_type)
reading_by At.Opt c = any_reading OfOption.attributes
reading_by At.Vxlan c = any_reading OfVxlan.attributes
reading_by At.Erspan c = any_reading OfErspan.attributes
reading_by At.LinkInfo c = any_reading (OfInfo.attributes (c.link, c.port))
reading_by At.LinkXdp c = any_reading OfXdp.attributes
reading_by At.Prop c = any_reading OfProp.attributes
reading_by At.LinkProtocolDownReason c = any_reading OfReason.attributes
reading_by At.AfSpecUnspec c = any_reading OfAfSpec.attributes
reading_by At.AfSpecInet c = any_reading OfAfSpecInet.attributes
reading_by At.AfSpecInet6 c = any_reading OfAfSpecInet6.attributes
reading_by At.AfSpecBridge c = any_reading OfAfBridge.attributes
reading_by At.BridgeVlanTunnelInfo c = any_reading OfVlanTunnel.attributes
reading_by At.BridgeMst c = any_reading OfMst.attributes
reading_by At.BridgeMstEntry c = any_reading OfMstEntry.attributes
reading_by At.InfoBridge c = any_reading OfBridge.attributes
reading_by At.BridgeQuerierState c = any_reading OfQuerier.attributes
reading_by At.InfoBridgePort c = any_reading OfBridgePort.attributes
reading_by At.InfoVlan c = any_reading OfVlan.attributes
reading_by At.VlanQosMapping c = any_reading OfVlanQos.attributes
reading_by At.InfoVrf c = any_reading OfVrf.attributes
reading_by At.InfoVeth c = any_reading OfVeth.attributes
reading_by At.Peer c = any_reading OfPeer.attributes
reading_by At.InfoBond c = any_reading OfBond.attributes
reading_by At.BondAdInfo c = any_reading OfAdInfo.attributes
reading_by At.InfoBondPort c = any_reading OfBondPort.attributes
reading_by At.InfoMacVlan c = any_reading OfMacVlan.attributes
reading_by At.MacVlanAddress c = any_reading OfMacVlanAddress.attributes
reading_by At.InfoIpVlan c = any_reading OfIpVlan.attributes
reading_by At.InfoNetkit c = any_reading OfNetkit.attributes
reading_by At.InfoTun c = any_reading OfTun.attributes
reading_by At.InfoVxlan c = any_reading OfLinkVxlan.attributes
reading_by At.InfoGeneve c = any_reading OfLinkGeneve.attributes
reading_by At.InfoGre c = any_reading OfGre.attributes
reading_by At.InfoGre6 c = any_reading OfGre6.attributes
reading_by At.InfoIpTunnel c = any_reading (OfIpTunnel.attributes c.link)
reading_by At.InfoVti c = any_reading OfVti.attributes
reading_by At.InfoXfrm c = any_reading OfLinkXfrm.attributes
reading_by At.NextHop c = any_reading (OfNextHopMessage.attributes (c.family, c.encap_type))
reading_by At.NextHopResGroup c = any_reading OfResGroup.attributes
reading_by At.NextHopResBucket c = any_reading OfResBucket.attributes
reading_by At.NextHopGroupStats c = any_reading OfGroupStats.attributes
reading_by At.NextHopGroupStatsEntry c = any_reading OfGroupStatsEntry.attributes
reading_by At.Nsid c = any_reading OfNsid.attributes
reading_by At.Netconf c = any_reading OfNetconf.attributes
reading_by At.AddressLabel c = any_reading OfAddressLabel.attributes
reading_by At.NeighbourTable c = any_reading OfNeighbourTable.attributes
reading_by At.NeighbourTableParameter c = any_reading OfNeighbourTableParameter.attributes
reading_by At.Prefix c = any_reading OfPrefix.attributes
reading_by At.Tc c = any_reading (OfTc.attributes c.tc)
reading_by At.TcStats2 c = any_reading (OfTcStats2.attributes c.tc)
reading_by At.TcStab c = any_reading OfTcStab.attributes
reading_by At.TcQdiscIngress c = any_reading OfTcIngress.attributes
reading_by At.TcQdiscFqCodel c = any_reading OfTcFqCodel.attributes
reading_by At.TcFilterU32 c = any_reading OfTcU32.attributes
reading_by At.TcFilterMatchAll c = any_reading OfTcMatchAll.attributes
reading_by At.TcFilterFlower c = any_reading OfTcFlower.attributes
reading_by At.TcFilterFlowerMpls c = any_reading OfTcMpls.attributes
reading_by At.TcFilterFlowerMplsLse c = any_reading OfTcMplsLse.attributes
reading_by At.TcActionMessage c = any_reading OfTcActionMessage.attributes
reading_by At.TcActions c = any_reading OfTcActions.attributes
reading_by At.TcAction c = any_reading (OfTcAction.attributes c.tc_action)
reading_by At.TcActionMirror c = any_reading OfTcMirror.attributes
reading_by At.TcActionNat c = any_reading OfTcNat.attributes
reading_by At.TcActionTunnelKey c = any_reading OfTcTunnelKey.attributes
reading_by At.TcQdiscHtb c = any_reading OfTcHtb.attributes
reading_by At.TcQdiscTbf c = any_reading OfTcTbf.attributes
reading_by At.TcQdiscRed c = any_reading OfTcRed.attributes
reading_by At.TcQdiscFq c = any_reading OfTcFq.attributes
reading_by At.TcQdiscNetem c = any_reading OfTcNetem.attributes
reading_by At.TcNetemLoss c = any_reading OfTcNetemLoss.attributes
reading_by At.TcFilterFw c = any_reading OfTcFw.attributes
reading_by At.TcFilterBpf c = any_reading OfTcFilterBpf.attributes
reading_by At.TcActionGact c = any_reading OfTcGact.attributes
reading_by At.TcActionPolice c = any_reading OfTcPolice.attributes
reading_by At.TcActionVlan c = any_reading OfTcVlan.attributes
reading_by At.TcActionSkbedit c = any_reading OfTcSkbedit.attributes
reading_by At.TcActionCsum c = any_reading OfTcCsum.attributes
reading_by At.TcActionCt c = any_reading OfTcCt.attributes
reading_by At.TcActionSample c = any_reading OfTcSample.attributes
reading_by At.TcActionBpf c = any_reading OfTcBpf.attributes
reading_by At.NeighbourFdb c = any_reading OfFdb.attributes
reading_by At.AfSpecMctp c = any_reading OfAfSpecMctp.attributes
reading_by At.LinkDpllPin c = any_reading OfPin.attributes
reading_by At.InfoHsr c = any_reading OfHsr.attributes
reading_by At.InfoIpoib c = any_reading OfIpoib.attributes
reading_by At.InfoMacSec c = any_reading OfMacSec.attributes
reading_by At.InfoGtp c = any_reading OfGtp.attributes
reading_by At.InfoOvpn c = any_reading OfOvpn.attributes
reading_by At.LinkVfInfo c = any_reading OfLinkVfInfo.attributes
reading_by At.VfInfo c = any_reading OfVfInfo.attributes
reading_by At.VfStats c = any_reading OfVfStats.attributes
reading_by At.VfVlan c = any_reading OfVfVlan.attributes
reading_by At.LinkVfPort c = any_reading OfLinkVfPort.attributes
reading_by At.VfPort c = any_reading OfVfPort.attributes
reading_by At.Stats c = any_reading OfStats.attributes
reading_by At.LinkXstats c = any_reading OfLinkXstats.attributes
reading_by At.BridgeXstats c = any_reading OfBridgeXstats.attributes
reading_by At.BondXstats c = any_reading OfBondXstats.attributes
reading_by At.BondAdStat c = any_reading OfBondAdStat.attributes
reading_by At.OffloadXstats c = any_reading OfOffloadXstats.attributes
reading_by At.OffloadHwInfo c = any_reading OfOffloadHwInfo.attributes
reading_by At.OffloadHwState c = any_reading OfOffloadHwState.attributes
reading_by At.StatsAfSpec c = any_reading OfStatsAfSpec.attributes
reading_by At.MplsStats c = any_reading OfMplsStats.attributes
reading_by At.TcQdiscCake c = any_reading OfTcCake.attributes
reading_by At.TcCakeStat c = any_reading OfTcCakeStat.attributes
reading_by At.TcCakeTinStat c = any_reading OfTcCakeTinStat.attributes
reading_by At.TcQdiscMqprio c = any_reading OfTcMqprio.attributes
reading_by At.TcMqprioEntry c = any_reading OfTcMqprioEntry.attributes
reading_by At.TcFilterBasic c = any_reading OfTcBasic.attributes
reading_by At.TcEmatchTree c = any_reading OfTcEmatchTree.attributes
reading_by At.TcFlowerCfm c = any_reading OfTcCfm.attributes
reading_by At.TcEnc c = any_reading OfTcEnc.attributes
reading_by At.TcEncGeneve c = any_reading OfTcEncGeneve.attributes
reading_by At.TcEncVxlan c = any_reading OfTcEncVxlan.attributes
reading_by At.TcEncErspan c = any_reading OfTcEncErspan.attributes
reading_by At.TcEncGtp c = any_reading OfTcEncGtp.attributes
reading_by At.TcEncPfcp c = any_reading OfTcEncPfcp.attributes
reading_by At.TcActionPedit c = any_reading OfTcPedit.attributes
reading_by At.TcPeditKeysEx c = any_reading OfTcPeditKeysEx.attributes
reading_by At.TcPeditKeyEx c = any_reading OfTcPeditKeyEx.attributes
reading_by At.TcCakeTins c = any_reading OfTcTins.attributes
reading_by At.TcEmatches c = any_reading OfTcEmatches.attributes
reading_by set c = any_reading (OfEncap.encapsulation Tunnel.None)
