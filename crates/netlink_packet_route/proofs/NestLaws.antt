-- Each list that stands in a value is the one that its form names, and each value with a reader of its own has one of the numbers of
-- those: of every set, under every context.
use Rattle.std.proofs.Common.{refl}
use Rattle.npr_base.specs.Nesting.{Nests}
use Rattle.npr_base.proofs.NestLaws.{table-nests}
use Rattle.npr_base.specs.declared.attribute_set.AttributeSet.{AttributeSet}
use Rattle.npr_base.specs.declared.attribute_set.AttributeSet.TheVariants as At
use Rattle.npr_address.specs.Attribute as OfAddress
use Rattle.npr_link.specs.Netkit as OfNetkit
use Rattle.npr_link_devices.specs.AdInfo as OfAdInfo
use Rattle.npr_link_devices.specs.Bond as OfBond
use Rattle.npr_link_devices.specs.BondPort as OfBondPort
use Rattle.npr_link_devices.specs.IpVlan as OfIpVlan
use Rattle.npr_link_devices.specs.MacVlan as OfMacVlan
use Rattle.npr_link_devices.specs.MacVlanAddress as OfMacVlanAddress
use Rattle.npr_link_devices.specs.Tun as OfTun
use Rattle.npr_link_tunnels.specs.Geneve as OfLinkGeneve
use Rattle.npr_link_tunnels.specs.Gre as OfGre
use Rattle.npr_link_tunnels.specs.Gre6 as OfGre6
use Rattle.npr_link_tunnels.specs.Vti as OfVti
use Rattle.npr_link_tunnels.specs.Vxlan as OfLinkVxlan
use Rattle.npr_link_tunnels.specs.Xfrm as OfLinkXfrm
use Rattle.npr_link.specs.AfSpec as OfAfSpec
use Rattle.npr_link.specs.AfSpecInet as OfAfSpecInet
use Rattle.npr_link.specs.AfSpecInet6 as OfAfSpecInet6
use Rattle.npr_link_bridge.specs.AfSpecBridge as OfAfBridge
use Rattle.npr_link_bridge.specs.Bridge as OfBridge
use Rattle.npr_link_bridge.specs.BridgePort as OfBridgePort
use Rattle.npr_link.specs.PeerAttribute as OfPeer
use Rattle.npr_link.specs.Prop as OfProp
use Rattle.npr_link.specs.ProtocolDown as OfReason
use Rattle.npr_link_bridge.specs.Mst as OfMst
use Rattle.npr_link_bridge.specs.MstEntry as OfMstEntry
use Rattle.npr_link_bridge.specs.QuerierState as OfQuerier
use Rattle.npr_link_bridge.specs.VlanTunnel as OfVlanTunnel
use Rattle.npr_link.specs.Veth as OfVeth
use Rattle.npr_link.specs.Vlan as OfVlan
use Rattle.npr_link.specs.VlanQos as OfVlanQos
use Rattle.npr_link.specs.Vrf as OfVrf
use Rattle.npr_link.specs.Xdp as OfXdp
use Rattle.npr_neighbour.specs.Attribute as OfNeighbour
use Rattle.npr_nexthop.specs.Attribute as OfNextHopMessage
use Rattle.npr_nexthop.specs.GroupStats as OfGroupStats
use Rattle.npr_nexthop.specs.GroupStatsEntry as OfGroupStatsEntry
use Rattle.npr_nexthop.specs.ResBucket as OfResBucket
use Rattle.npr_nexthop.specs.ResGroup as OfResGroup
use Rattle.npr_route.specs.Metric as OfMetric
use Rattle.npr_rule.specs.Attribute as OfRule
use Rattle.npr_address.specs.AddressLabelAttribute as OfAddressLabel
use Rattle.npr_neighbour.specs.NeighbourTableAttribute as OfNeighbourTable
use Rattle.npr_neighbour.specs.NeighbourTableParameter as OfNeighbourTableParameter
use Rattle.npr_namespace.specs.NetconfAttribute as OfNetconf
use Rattle.npr_namespace.specs.NsidAttribute as OfNsid
use Rattle.npr_address.specs.PrefixAttribute as OfPrefix
use Rattle.npr_tc.specs.ActionAttribute as OfTcActionMessage
use Rattle.npr_tc_actions.specs.MirrorOption as OfTcMirror
use Rattle.npr_tc_actions.specs.NatOption as OfTcNat
use Rattle.npr_tc_actions.specs.TunnelKeyOption as OfTcTunnelKey
use Rattle.npr_tc_filters.specs.Flower as OfTcFlower
use Rattle.npr_tc_filters.specs.FlowerMpls as OfTcMpls
use Rattle.npr_tc_filters.specs.FlowerMplsLse as OfTcMplsLse
use Rattle.npr_tc_filters.specs.MatchAll as OfTcMatchAll
use Rattle.npr_tc_filters.specs.U32Option as OfTcU32
use Rattle.npr_tc_actions.specs.BpfOption as OfTcBpf
use Rattle.npr_tc_actions.specs.CsumOption as OfTcCsum
use Rattle.npr_tc_actions.specs.CtOption as OfTcCt
use Rattle.npr_tc_actions.specs.GactOption as OfTcGact
use Rattle.npr_tc_actions.specs.PoliceOption as OfTcPolice
use Rattle.npr_tc_actions.specs.SampleOption as OfTcSample
use Rattle.npr_tc_actions.specs.SkbeditOption as OfTcSkbedit
use Rattle.npr_tc_actions.specs.VlanOption as OfTcVlan
use Rattle.npr_tc_filters.specs.Bpf as OfTcFilterBpf
use Rattle.npr_tc_filters.specs.Fw as OfTcFw
use Rattle.npr_tc_qdiscs.specs.Fq as OfTcFq
use Rattle.npr_tc_qdiscs.specs.Htb as OfTcHtb
use Rattle.npr_tc_qdiscs.specs.NetemLoss as OfTcNetemLoss
use Rattle.npr_tc_qdiscs.specs.NetemOption as OfTcNetem
use Rattle.npr_tc_qdiscs.specs.Red as OfTcRed
use Rattle.npr_tc_qdiscs.specs.Tbf as OfTcTbf
use Rattle.npr_tc_qdiscs.specs.FqCodel as OfTcFqCodel
use Rattle.npr_tc_qdiscs.specs.Ingress as OfTcIngress
use Rattle.npr_tc_qdiscs.specs.Stab as OfTcStab
use Rattle.npr_neighbour.specs.Fdb as OfFdb
use Rattle.npr_link.specs.AfSpecMctp as OfAfSpecMctp
use Rattle.npr_link.specs.DpllPin as OfPin
use Rattle.npr_link_devices.specs.Hsr as OfHsr
use Rattle.npr_link_devices.specs.Ipoib as OfIpoib
use Rattle.npr_link_devices.specs.MacSec as OfMacSec
use Rattle.npr_link_tunnels.specs.Gtp as OfGtp
use Rattle.npr_link_tunnels.specs.Ovpn as OfOvpn
use Rattle.npr_link_functions.specs.LinkVfInfo as OfLinkVfInfo
use Rattle.npr_link_functions.specs.VfInfo as OfVfInfo
use Rattle.npr_link_functions.specs.VfStats as OfVfStats
use Rattle.npr_link_functions.specs.VfVlanList as OfVfVlan
use Rattle.npr_link_functions.specs.LinkVfPort as OfLinkVfPort
use Rattle.npr_link_functions.specs.VfPort as OfVfPort
use Rattle.npr_stats.specs.Attribute as OfStats
use Rattle.npr_stats.specs.LinkXstats as OfLinkXstats
use Rattle.npr_stats.specs.BridgeXstats as OfBridgeXstats
use Rattle.npr_stats.specs.BondXstats as OfBondXstats
use Rattle.npr_stats.specs.BondAdStat as OfBondAdStat
use Rattle.npr_stats.specs.OffloadXstats as OfOffloadXstats
use Rattle.npr_stats.specs.OffloadHwInfo as OfOffloadHwInfo
use Rattle.npr_stats.specs.OffloadHwState as OfOffloadHwState
use Rattle.npr_stats.specs.AfSpec as OfStatsAfSpec
use Rattle.npr_stats.specs.MplsStats as OfMplsStats
use Rattle.npr_tc_qdiscs.specs.Cake as OfTcCake
use Rattle.npr_tc_values.specs.CakeStat as OfTcCakeStat
use Rattle.npr_tc_values.specs.CakeTinStat as OfTcCakeTinStat
use Rattle.npr_tc_qdiscs.specs.MqprioOption as OfTcMqprio
use Rattle.npr_tc_qdiscs.specs.MqprioEntry as OfTcMqprioEntry
use Rattle.npr_tc_filters.specs.Basic as OfTcBasic
use Rattle.npr_tc_filters.specs.EmatchTree as OfTcEmatchTree
use Rattle.npr_tc_filters.specs.FlowerCfm as OfTcCfm
use Rattle.npr_tc_actions.specs.EncOption as OfTcEnc
use Rattle.npr_tc_actions.specs.EncGeneve as OfTcEncGeneve
use Rattle.npr_tc_actions.specs.EncVxlan as OfTcEncVxlan
use Rattle.npr_tc_actions.specs.EncErspan as OfTcEncErspan
use Rattle.npr_tc_actions.specs.EncGtp as OfTcEncGtp
use Rattle.npr_tc_actions.specs.EncPfcp as OfTcEncPfcp
use Rattle.npr_tc_actions.specs.PeditOption as OfTcPedit
use Rattle.npr_tc_actions.specs.PeditKeysEx as OfTcPeditKeysEx
use Rattle.npr_tc_actions.specs.PeditKeyEx as OfTcPeditKeyEx
use Rattle.npr_encapsulation.specs.Encapsulation as OfEncap
use Rattle.npr_encapsulation.specs.ErspanOptions as OfErspan
use Rattle.npr_encapsulation.specs.TunnelOptions as OfOption
use Rattle.npr_encapsulation.specs.VxlanOptions as OfVxlan
use Rattle.npr_neighbour.specs.NeighbourAddress as OfNeighbourAddress
use Rattle.npr_route_values.specs.RouteAddress as OfAddresses
use Rattle.npr_encapsulation.specs.declared.encap_type.RouteLwEnCapType.TheVariants as Tunnel
use Rattle.netlink_packet_route.specs.Nests.{Inner, reading_of, within}
use Rattle.netlink_packet_route.specs.Readings.{reading_by}
use Rattle.netlink_packet_route.specs.declared.context.Context.{Context}
use Rattle.netlink_packet_route.specs.declared.nests.Nest.{Nest}
use Rattle.netlink_packet_route.proofs.NestRows.{Own, listed-row, peer-row, route-nests, next-hop-rows, neighbour-rows}
use Rattle.netlink_packet_route.proofs.LinkNests.{link-nests, driver-nests, tunnel-nests}
use Rattle.netlink_packet_route.proofs.EncapNests.{encap-nests}
use Rattle.netlink_packet_route.proofs.TcNests.{tc-nests, stats2-nests, tins-nests, actions-nests, action-nests}

-- ---- of every set

module _ (c : Context) where
  pub nests-by : (set : AttributeSet) → Nests reading_of (Inner (within set c)) (Own set c) (reading_by set c).reading
  unfolding OfMetric.attributes OfOption.attributes OfVxlan.attributes OfErspan.attributes OfXdp.attributes OfProp.attributes
      OfReason.attributes OfAfSpec.attributes OfAfSpecInet.attributes OfAfSpecInet6.attributes OfAfBridge.attributes
      OfVlanTunnel.attributes OfMst.attributes OfMstEntry.attributes OfBridge.attributes OfQuerier.attributes OfBridgePort.attributes
      OfVlan.attributes OfVlanQos.attributes OfVrf.attributes OfVeth.attributes OfPeer.attributes OfBond.attributes OfAdInfo.attributes
      OfBondPort.attributes OfMacVlan.attributes OfMacVlanAddress.attributes OfIpVlan.attributes OfNetkit.attributes OfTun.attributes
      OfLinkVxlan.attributes OfLinkGeneve.attributes OfGre.attributes OfGre6.attributes OfVti.attributes OfLinkXfrm.attributes
      OfResGroup.attributes OfResBucket.attributes OfGroupStats.attributes OfGroupStatsEntry.attributes
      OfNeighbourTableParameter.attributes OfTcActionMessage.attributes OfTcMirror.attributes OfTcNat.attributes OfTcTunnelKey.attributes
      OfTcFlower.attributes OfTcMpls.attributes OfTcMplsLse.attributes OfTcMatchAll.attributes OfTcU32.attributes OfTcFqCodel.attributes
      OfTcIngress.attributes OfTcStab.attributes OfTcHtb.attributes OfTcTbf.attributes OfTcRed.attributes OfTcFq.attributes OfTcNetem.attributes
      OfTcNetemLoss.attributes OfTcFw.attributes OfTcFilterBpf.attributes OfTcGact.attributes OfTcPolice.attributes OfTcVlan.attributes
      OfTcSkbedit.attributes OfTcCsum.attributes OfTcCt.attributes OfTcSample.attributes OfTcBpf.attributes
      OfFdb.attributes OfAfSpecMctp.attributes OfPin.attributes OfHsr.attributes OfIpoib.attributes OfMacSec.attributes
      OfGtp.attributes OfOvpn.attributes OfLinkVfInfo.attributes OfVfInfo.attributes OfVfStats.attributes OfVfVlan.attributes
      OfLinkVfPort.attributes OfVfPort.attributes OfLinkXstats.attributes OfBridgeXstats.attributes
      OfBondXstats.attributes OfBondAdStat.attributes OfOffloadXstats.attributes
      OfOffloadHwInfo.attributes OfOffloadHwState.attributes OfStatsAfSpec.attributes OfMplsStats.attributes
      OfTcCake.attributes OfTcCakeStat.attributes OfTcCakeTinStat.attributes OfTcMqprio.attributes OfTcMqprioEntry.attributes
      OfTcBasic.attributes OfTcEmatchTree.attributes OfTcCfm.attributes OfTcEnc.attributes OfTcEncGeneve.attributes
      OfTcEncVxlan.attributes OfTcEncErspan.attributes OfTcEncGtp.attributes OfTcEncPfcp.attributes OfTcPedit.attributes
      OfTcPeditKeysEx.attributes OfTcPeditKeyEx.attributes
  nests-by At.Address = table-nests reading_of (Inner c) (Own At.Address c) OfAddress.table tt
  nests-by At.Rule = table-nests reading_of (Inner c) (Own At.Rule c) OfRule.table tt
  nests-by At.Route = route-nests c
  nests-by At.Neighbour = table-nests reading_of (Inner c) (Own At.Neighbour c) (OfNeighbour.table (OfNeighbourAddress.form_of c.family)) (neighbour-rows c (OfNeighbourAddress.form_of c.family))
  nests-by At.Link = link-nests c
  nests-by At.Metric = table-nests reading_of (Inner c) (Own At.Metric c) OfMetric.table tt
  nests-by At.Encap = encap-nests c c.encap_type
  nests-by At.Opt = table-nests reading_of (Inner c) (Own At.Opt c) OfOption.table (refl, (listed-row At.Opt c At.Vxlan (λ bytes n p. p), (listed-row At.Opt c At.Erspan (λ bytes n p. p), tt)))
  nests-by At.Vxlan = table-nests reading_of (Inner c) (Own At.Vxlan c) OfVxlan.table tt
  nests-by At.Erspan = table-nests reading_of (Inner c) (Own At.Erspan c) OfErspan.table tt
  nests-by At.LinkInfo = driver-nests c
  nests-by At.LinkXdp = table-nests reading_of (Inner c) (Own At.LinkXdp c) OfXdp.table tt
  nests-by At.Prop = table-nests reading_of (Inner c) (Own At.Prop c) OfProp.table tt
  nests-by At.LinkProtocolDownReason = table-nests reading_of (Inner c) (Own At.LinkProtocolDownReason c) OfReason.table tt
  nests-by At.AfSpecUnspec = table-nests reading_of (Inner c) (Own At.AfSpecUnspec c) OfAfSpec.table (listed-row At.AfSpecUnspec c At.AfSpecInet (λ bytes n p. p), (listed-row At.AfSpecUnspec c At.AfSpecInet6 (λ bytes n p. p), (listed-row At.AfSpecUnspec c At.AfSpecMctp (λ bytes n p. p), tt)))
  nests-by At.AfSpecInet = table-nests reading_of (Inner c) (Own At.AfSpecInet c) OfAfSpecInet.table tt
  nests-by At.AfSpecInet6 = table-nests reading_of (Inner c) (Own At.AfSpecInet6 c) OfAfSpecInet6.table tt
  nests-by At.AfSpecBridge = table-nests reading_of (Inner c) (Own At.AfSpecBridge c) OfAfBridge.table (listed-row At.AfSpecBridge c At.BridgeVlanTunnelInfo (λ bytes n p. p), (listed-row At.AfSpecBridge c At.BridgeMst (λ bytes n p. p), tt))
  nests-by At.BridgeVlanTunnelInfo = table-nests reading_of (Inner c) (Own At.BridgeVlanTunnelInfo c) OfVlanTunnel.table tt
  nests-by At.BridgeMst = table-nests reading_of (Inner c) (Own At.BridgeMst c) OfMst.table (listed-row At.BridgeMst c At.BridgeMstEntry (λ bytes n p. p), tt)
  nests-by At.BridgeMstEntry = table-nests reading_of (Inner c) (Own At.BridgeMstEntry c) OfMstEntry.table tt
  nests-by At.InfoBridge = table-nests reading_of (Inner c) (Own At.InfoBridge c) OfBridge.table (listed-row At.InfoBridge c At.BridgeQuerierState (λ bytes n p. p), tt)
  nests-by At.BridgeQuerierState = table-nests reading_of (Inner c) (Own At.BridgeQuerierState c) OfQuerier.table tt
  nests-by At.InfoBridgePort = table-nests reading_of (Inner c) (Own At.InfoBridgePort c) OfBridgePort.table tt
  nests-by At.InfoVlan = table-nests reading_of (Inner c) (Own At.InfoVlan c) OfVlan.table (listed-row At.InfoVlan c At.VlanQosMapping (λ bytes n p. p), (listed-row At.InfoVlan c At.VlanQosMapping (λ bytes n p. p), tt))
  nests-by At.VlanQosMapping = table-nests reading_of (Inner c) (Own At.VlanQosMapping c) OfVlanQos.table tt
  nests-by At.InfoVrf = table-nests reading_of (Inner c) (Own At.InfoVrf c) OfVrf.table tt
  nests-by At.InfoVeth = table-nests reading_of (Inner c) (Own At.InfoVeth c) OfVeth.table (peer-row At.InfoVeth c, tt)
  nests-by At.Peer = table-nests reading_of (Inner c) (Own At.Peer c) OfPeer.table tt
  nests-by At.InfoBond = table-nests reading_of (Inner c) (Own At.InfoBond c) OfBond.table (refl, (listed-row At.InfoBond c At.BondAdInfo (λ bytes n p. p), (refl, tt)))
  nests-by At.BondAdInfo = table-nests reading_of (Inner c) (Own At.BondAdInfo c) OfAdInfo.table tt
  nests-by At.InfoBondPort = table-nests reading_of (Inner c) (Own At.InfoBondPort c) OfBondPort.table tt
  nests-by At.InfoMacVlan = table-nests reading_of (Inner c) (Own At.InfoMacVlan c) OfMacVlan.table (listed-row At.InfoMacVlan c At.MacVlanAddress (λ bytes n p. p), tt)
  nests-by At.MacVlanAddress = table-nests reading_of (Inner c) (Own At.MacVlanAddress c) OfMacVlanAddress.table tt
  nests-by At.InfoIpVlan = table-nests reading_of (Inner c) (Own At.InfoIpVlan c) OfIpVlan.table tt
  nests-by At.InfoNetkit = table-nests reading_of (Inner c) (Own At.InfoNetkit c) OfNetkit.table (peer-row At.InfoNetkit c, tt)
  nests-by At.InfoTun = table-nests reading_of (Inner c) (Own At.InfoTun c) OfTun.table tt
  nests-by At.InfoVxlan = table-nests reading_of (Inner c) (Own At.InfoVxlan c) OfLinkVxlan.table tt
  nests-by At.InfoGeneve = table-nests reading_of (Inner c) (Own At.InfoGeneve c) OfLinkGeneve.table tt
  nests-by At.InfoGre = table-nests reading_of (Inner c) (Own At.InfoGre c) OfGre.table tt
  nests-by At.InfoGre6 = table-nests reading_of (Inner c) (Own At.InfoGre6 c) OfGre6.table tt
  nests-by At.InfoIpTunnel = tunnel-nests c
  nests-by At.InfoVti = table-nests reading_of (Inner c) (Own At.InfoVti c) OfVti.table tt
  nests-by At.InfoXfrm = table-nests reading_of (Inner c) (Own At.InfoXfrm c) OfLinkXfrm.table tt
  nests-by At.NextHop = table-nests reading_of (Inner c) (Own At.NextHop c) (OfNextHopMessage.table (OfAddresses.form_of c.family) (OfEncap.encapsulation c.encap_type)) (next-hop-rows c (OfAddresses.form_of c.family))
  nests-by At.NextHopResGroup = table-nests reading_of (Inner c) (Own At.NextHopResGroup c) OfResGroup.table tt
  nests-by At.NextHopResBucket = table-nests reading_of (Inner c) (Own At.NextHopResBucket c) OfResBucket.table tt
  nests-by At.NextHopGroupStats = table-nests reading_of (Inner c) (Own At.NextHopGroupStats c) OfGroupStats.table (listed-row At.NextHopGroupStats c At.NextHopGroupStatsEntry (λ bytes n p. p), tt)
  nests-by At.NextHopGroupStatsEntry = table-nests reading_of (Inner c) (Own At.NextHopGroupStatsEntry c) OfGroupStatsEntry.table tt
  nests-by At.Nsid = table-nests reading_of (Inner c) (Own At.Nsid c) OfNsid.table tt
  nests-by At.Netconf = table-nests reading_of (Inner c) (Own At.Netconf c) OfNetconf.table tt
  nests-by At.AddressLabel = table-nests reading_of (Inner c) (Own At.AddressLabel c) OfAddressLabel.table tt
  nests-by At.NeighbourTable = table-nests reading_of (Inner c) (Own At.NeighbourTable c) OfNeighbourTable.table (listed-row At.NeighbourTable c At.NeighbourTableParameter (λ bytes n p. p), tt)
  nests-by At.NeighbourTableParameter = table-nests reading_of (Inner c) (Own At.NeighbourTableParameter c) OfNeighbourTableParameter.table tt
  nests-by At.Prefix = table-nests reading_of (Inner c) (Own At.Prefix c) OfPrefix.table tt
  nests-by At.Tc = tc-nests c
  nests-by At.TcStats2 = stats2-nests c
  nests-by At.TcStab = table-nests reading_of (Inner c) (Own At.TcStab c) OfTcStab.table tt
  nests-by At.TcQdiscIngress = λ x. tt
  nests-by At.TcQdiscFqCodel = table-nests reading_of (Inner c) (Own At.TcQdiscFqCodel c) OfTcFqCodel.table tt
  nests-by At.TcFilterU32 =
      table-nests reading_of (Inner c) (Own At.TcFilterU32 c) OfTcU32.table
      (listed-row At.TcFilterU32 c At.TcActionPolice (λ bytes n p. p), (listed-row At.TcFilterU32 c At.TcActions (λ bytes n p. p), tt))
  nests-by At.TcFilterMatchAll =
      table-nests reading_of (Inner c) (Own At.TcFilterMatchAll c) OfTcMatchAll.table
      (listed-row At.TcFilterMatchAll c At.TcActions (λ bytes n p. p), tt)
  nests-by At.TcFilterFlower =
      table-nests reading_of (Inner c) (Own At.TcFilterFlower c) OfTcFlower.table (
        listed-row At.TcFilterFlower c At.TcActions (λ bytes n p. p),
        (
          listed-row At.TcFilterFlower c At.TcEnc (λ bytes n p. p),
          (
            listed-row At.TcFilterFlower c At.TcEnc (λ bytes n p. p),
            (
              listed-row At.TcFilterFlower c At.TcFilterFlowerMpls (λ bytes n p. p),
              (listed-row At.TcFilterFlower c At.TcFlowerCfm (λ bytes n p. p), tt),
            ),
          ),
        ),
      )
  nests-by At.TcFilterFlowerMpls =
      table-nests reading_of (Inner c) (Own At.TcFilterFlowerMpls c) OfTcMpls.table
      (listed-row At.TcFilterFlowerMpls c At.TcFilterFlowerMplsLse (λ bytes n p. p), tt)
  nests-by At.TcFilterFlowerMplsLse = table-nests reading_of (Inner c) (Own At.TcFilterFlowerMplsLse c) OfTcMplsLse.table tt
  nests-by At.TcActionMessage =
      table-nests reading_of (Inner c) (Own At.TcActionMessage c) OfTcActionMessage.table
      (listed-row At.TcActionMessage c At.TcActions (λ bytes n p. p), tt)
  nests-by At.TcActions = actions-nests c
  nests-by At.TcAction = action-nests c
  nests-by At.TcActionMirror = table-nests reading_of (Inner c) (Own At.TcActionMirror c) OfTcMirror.table tt
  nests-by At.TcActionNat = table-nests reading_of (Inner c) (Own At.TcActionNat c) OfTcNat.table tt
  nests-by At.TcActionTunnelKey =
      table-nests reading_of (Inner c) (Own At.TcActionTunnelKey c) OfTcTunnelKey.table
      (listed-row At.TcActionTunnelKey c At.TcEnc (λ bytes n p. p), tt)
  nests-by At.TcQdiscHtb = table-nests reading_of (Inner c) (Own At.TcQdiscHtb c) OfTcHtb.table tt
  nests-by At.TcQdiscTbf = table-nests reading_of (Inner c) (Own At.TcQdiscTbf c) OfTcTbf.table tt
  nests-by At.TcQdiscRed = table-nests reading_of (Inner c) (Own At.TcQdiscRed c) OfTcRed.table tt
  nests-by At.TcQdiscFq = table-nests reading_of (Inner c) (Own At.TcQdiscFq c) OfTcFq.table tt
  nests-by At.TcQdiscNetem =
      table-nests reading_of (Inner c) (Own At.TcQdiscNetem c) OfTcNetem.table
      (listed-row At.TcQdiscNetem c At.TcNetemLoss (λ bytes n p. p), tt)
  nests-by At.TcNetemLoss = table-nests reading_of (Inner c) (Own At.TcNetemLoss c) OfTcNetemLoss.table tt
  nests-by At.TcFilterFw =
      table-nests reading_of (Inner c) (Own At.TcFilterFw c) OfTcFw.table
      (listed-row At.TcFilterFw c At.TcActionPolice (λ bytes n p. p), (listed-row At.TcFilterFw c At.TcActions (λ bytes n p. p), tt))
  nests-by At.TcFilterBpf =
      table-nests reading_of (Inner c) (Own At.TcFilterBpf c) OfTcFilterBpf.table
      (listed-row At.TcFilterBpf c At.TcActions (λ bytes n p. p), (listed-row At.TcFilterBpf c At.TcActionPolice (λ bytes n p. p), tt))
  nests-by At.TcActionGact = table-nests reading_of (Inner c) (Own At.TcActionGact c) OfTcGact.table tt
  nests-by At.TcActionPolice = table-nests reading_of (Inner c) (Own At.TcActionPolice c) OfTcPolice.table tt
  nests-by At.TcActionVlan = table-nests reading_of (Inner c) (Own At.TcActionVlan c) OfTcVlan.table tt
  nests-by At.TcActionSkbedit = table-nests reading_of (Inner c) (Own At.TcActionSkbedit c) OfTcSkbedit.table tt
  nests-by At.TcActionCsum = table-nests reading_of (Inner c) (Own At.TcActionCsum c) OfTcCsum.table tt
  nests-by At.TcActionCt = table-nests reading_of (Inner c) (Own At.TcActionCt c) OfTcCt.table tt
  nests-by At.TcActionSample = table-nests reading_of (Inner c) (Own At.TcActionSample c) OfTcSample.table tt
  nests-by At.TcActionBpf = table-nests reading_of (Inner c) (Own At.TcActionBpf c) OfTcBpf.table tt
  nests-by At.NeighbourFdb = table-nests reading_of (Inner c) (Own At.NeighbourFdb c) OfFdb.table tt
  nests-by At.AfSpecMctp = table-nests reading_of (Inner c) (Own At.AfSpecMctp c) OfAfSpecMctp.table tt
  nests-by At.LinkDpllPin = table-nests reading_of (Inner c) (Own At.LinkDpllPin c) OfPin.table tt
  nests-by At.InfoHsr = table-nests reading_of (Inner c) (Own At.InfoHsr c) OfHsr.table tt
  nests-by At.InfoIpoib = table-nests reading_of (Inner c) (Own At.InfoIpoib c) OfIpoib.table tt
  nests-by At.InfoMacSec = table-nests reading_of (Inner c) (Own At.InfoMacSec c) OfMacSec.table tt
  nests-by At.InfoGtp = table-nests reading_of (Inner c) (Own At.InfoGtp c) OfGtp.table tt
  nests-by At.InfoOvpn = table-nests reading_of (Inner c) (Own At.InfoOvpn c) OfOvpn.table tt
  nests-by At.LinkVfInfo =
      table-nests reading_of (Inner c) (Own At.LinkVfInfo c) OfLinkVfInfo.table
      (listed-row At.LinkVfInfo c At.VfInfo (λ bytes n p. p), tt)
  nests-by At.VfInfo =
      table-nests reading_of (Inner c) (Own At.VfInfo c) OfVfInfo.table
      (listed-row At.VfInfo c At.VfStats (λ bytes n p. p), (listed-row At.VfInfo c At.VfVlan (λ bytes n p. p), tt))
  nests-by At.VfStats = table-nests reading_of (Inner c) (Own At.VfStats c) OfVfStats.table tt
  nests-by At.VfVlan = table-nests reading_of (Inner c) (Own At.VfVlan c) OfVfVlan.table tt
  nests-by At.LinkVfPort =
      table-nests reading_of (Inner c) (Own At.LinkVfPort c) OfLinkVfPort.table
      (listed-row At.LinkVfPort c At.VfPort (λ bytes n p. p), tt)
  nests-by At.VfPort = table-nests reading_of (Inner c) (Own At.VfPort c) OfVfPort.table tt
  nests-by At.Stats =
      table-nests reading_of (Inner c) (Own At.Stats c) OfStats.table
      (listed-row At.Stats c At.LinkXstats (λ bytes n p. p), (listed-row At.Stats c At.LinkXstats (λ bytes n p. p), (listed-row At.Stats c At.OffloadXstats (λ bytes n p. p), (listed-row At.Stats c At.StatsAfSpec (λ bytes n p. p), tt))))
  nests-by At.LinkXstats =
      table-nests reading_of (Inner c) (Own At.LinkXstats c) OfLinkXstats.table
      (listed-row At.LinkXstats c At.BridgeXstats (λ bytes n p. p), (listed-row At.LinkXstats c At.BondXstats (λ bytes n p. p), tt))
  nests-by At.BridgeXstats = table-nests reading_of (Inner c) (Own At.BridgeXstats c) OfBridgeXstats.table tt
  nests-by At.BondXstats =
      table-nests reading_of (Inner c) (Own At.BondXstats c) OfBondXstats.table
      (listed-row At.BondXstats c At.BondAdStat (λ bytes n p. p), tt)
  nests-by At.BondAdStat = table-nests reading_of (Inner c) (Own At.BondAdStat c) OfBondAdStat.table tt
  nests-by At.OffloadXstats =
      table-nests reading_of (Inner c) (Own At.OffloadXstats c) OfOffloadXstats.table
      (listed-row At.OffloadXstats c At.OffloadHwInfo (λ bytes n p. p), tt)
  nests-by At.OffloadHwInfo =
      table-nests reading_of (Inner c) (Own At.OffloadHwInfo c) OfOffloadHwInfo.table
      (listed-row At.OffloadHwInfo c At.OffloadHwState (λ bytes n p. p), tt)
  nests-by At.OffloadHwState = table-nests reading_of (Inner c) (Own At.OffloadHwState c) OfOffloadHwState.table tt
  nests-by At.StatsAfSpec =
      table-nests reading_of (Inner c) (Own At.StatsAfSpec c) OfStatsAfSpec.table
      (listed-row At.StatsAfSpec c At.MplsStats (λ bytes n p. p), tt)
  nests-by At.MplsStats = table-nests reading_of (Inner c) (Own At.MplsStats c) OfMplsStats.table tt
  nests-by At.TcQdiscCake = table-nests reading_of (Inner c) (Own At.TcQdiscCake c) OfTcCake.table tt
  nests-by At.TcCakeStat =
      table-nests reading_of (Inner c) (Own At.TcCakeStat c) OfTcCakeStat.table
      (listed-row At.TcCakeStat c At.TcCakeTins (λ bytes n p. p), tt)
  nests-by At.TcCakeTinStat = table-nests reading_of (Inner c) (Own At.TcCakeTinStat c) OfTcCakeTinStat.table tt
  nests-by At.TcQdiscMqprio =
      table-nests reading_of (Inner c) (Own At.TcQdiscMqprio c) OfTcMqprio.table
      (listed-row At.TcQdiscMqprio c At.TcMqprioEntry (λ bytes n p. p), tt)
  nests-by At.TcMqprioEntry = table-nests reading_of (Inner c) (Own At.TcMqprioEntry c) OfTcMqprioEntry.table tt
  nests-by At.TcFilterBasic =
      table-nests reading_of (Inner c) (Own At.TcFilterBasic c) OfTcBasic.table
      (listed-row At.TcFilterBasic c At.TcEmatchTree (λ bytes n p. p), (listed-row At.TcFilterBasic c At.TcActions (λ bytes n p. p), (listed-row At.TcFilterBasic c At.TcActionPolice (λ bytes n p. p), tt)))
  nests-by At.TcEmatchTree =
      table-nests reading_of (Inner c) (Own At.TcEmatchTree c) OfTcEmatchTree.table
      (listed-row At.TcEmatchTree c At.TcEmatches (λ bytes n p. p), tt)
  nests-by At.TcFlowerCfm = table-nests reading_of (Inner c) (Own At.TcFlowerCfm c) OfTcCfm.table tt
  nests-by At.TcEnc =
      table-nests reading_of (Inner c) (Own At.TcEnc c) OfTcEnc.table
      (listed-row At.TcEnc c At.TcEncGeneve (λ bytes n p. p), (listed-row At.TcEnc c At.TcEncVxlan (λ bytes n p. p), (listed-row At.TcEnc c At.TcEncErspan (λ bytes n p. p), (listed-row At.TcEnc c At.TcEncGtp (λ bytes n p. p), (listed-row At.TcEnc c At.TcEncPfcp (λ bytes n p. p), tt)))))
  nests-by At.TcEncGeneve = table-nests reading_of (Inner c) (Own At.TcEncGeneve c) OfTcEncGeneve.table tt
  nests-by At.TcEncVxlan = table-nests reading_of (Inner c) (Own At.TcEncVxlan c) OfTcEncVxlan.table tt
  nests-by At.TcEncErspan = table-nests reading_of (Inner c) (Own At.TcEncErspan c) OfTcEncErspan.table tt
  nests-by At.TcEncGtp = table-nests reading_of (Inner c) (Own At.TcEncGtp c) OfTcEncGtp.table tt
  nests-by At.TcEncPfcp = table-nests reading_of (Inner c) (Own At.TcEncPfcp c) OfTcEncPfcp.table tt
  nests-by At.TcActionPedit =
      table-nests reading_of (Inner c) (Own At.TcActionPedit c) OfTcPedit.table
      (listed-row At.TcActionPedit c At.TcPeditKeysEx (λ bytes n p. p), tt)
  nests-by At.TcPeditKeysEx =
      table-nests reading_of (Inner c) (Own At.TcPeditKeysEx c) OfTcPeditKeysEx.table
      (listed-row At.TcPeditKeysEx c At.TcPeditKeyEx (λ bytes n p. p), tt)
  nests-by At.TcPeditKeyEx = table-nests reading_of (Inner c) (Own At.TcPeditKeyEx c) OfTcPeditKeyEx.table tt
  nests-by At.TcCakeTins = tins-nests c
  nests-by At.TcEmatches = λ x. tt
  nests-by set = encap-nests c Tunnel.None

pub nests : (n : Nest) → Nests reading_of (Inner (within n.set n.context)) (Own n.set n.context) (reading_of n).reading
nests n = nests-by n.context n.set
