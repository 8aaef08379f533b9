-- The names of attributes, by their sets and numbers. The lists stand in `src`: here is which set has which.
use Rattle.std.specs.Prelude.{ℕ, List, [], ◌∷◌, Option, map, slice_get, unwrap_or}
use Rattle.npr_base.specs.contracts.attribute_set.AttributeSet.{the_type as the_sets}
use Rattle.npr_base.specs.declared.attribute_set.AttributeSet.{AttributeSet}
use Rattle.npr_names.specs.declared.route.TheConstants as routes
use Rattle.npr_names.specs.declared.link.TheConstants as links
use Rattle.npr_names.specs.declared.link_function.TheConstants as functions
use Rattle.npr_names.specs.declared.link_kind.TheConstants as kinds
use Rattle.npr_names.specs.declared.small.TheConstants as smalls
use Rattle.npr_names.specs.declared.statistics.TheConstants as statistics
use Rattle.npr_names.specs.declared.tc.TheConstants as traffic
use Rattle.npr_names.specs.declared.tc_action.TheConstants as actions
use Rattle.npr_names.specs.declared.tc_kind.TheConstants as traffic_kinds
use denote.Enum.Declared.{tag_of}

-- the texts of a list in `src`
abbrev texts : List (record { now : List ℕ }) → List (List ℕ)
texts names = map (λ name. name.now) names

-- those of each set, in the order of the sets
abbrev pub lists : List (List (List ℕ))
lists =
    [] ∷ texts routes.ADDRESS.now ∷ texts routes.RULE.now ∷ texts routes.ROUTE.now ∷ texts routes.METRIC.now ∷ texts routes.MPLS.now
    ∷ texts routes.IP.now ∷ texts routes.IP6.now ∷ texts routes.XFRM.now ∷ texts routes.OPT.now ∷ texts routes.GENEVE.now
    ∷ texts routes.VXLAN.now ∷ texts routes.ERSPAN.now ∷ texts routes.SEG6.now ∷ texts routes.SEG6_LOCAL.now ∷ texts routes.RPL.now
    ∷ texts routes.IOAM6.now ∷ texts routes.NEIGHBOUR.now ∷ texts links.LINK.now ∷ texts links.INFO.now ∷ texts links.XDP.now
    ∷ texts links.LINK.now ∷ texts links.PROTOCOL_DOWN.now ∷ texts links.AF_SPEC.now ∷ texts links.AF_SPEC_INET.now
    ∷ texts links.AF_SPEC_INET6.now ∷ texts links.BRIDGE.now ∷ texts links.QUERIER.now ∷ texts links.BRIDGE_PORT.now ∷ texts links.VLAN.now
    ∷ texts links.VLAN_QOS.now ∷ texts links.VRF.now ∷ texts links.VETH.now ∷ texts links.LINK.now ∷ texts kinds.AF_SPEC_BRIDGE.now
    ∷ texts kinds.VLAN_TUNNEL.now ∷ texts kinds.MST.now ∷ texts kinds.MST_ENTRY.now ∷ texts kinds.BOND.now ∷ texts kinds.BOND_AD_INFO.now
    ∷ texts kinds.BOND_PORT.now ∷ texts kinds.MAC_VLAN.now ∷ texts kinds.MAC_VLAN.now ∷ texts kinds.IP_VLAN.now ∷ texts kinds.NETKIT.now
    ∷ texts kinds.TUN.now ∷ texts kinds.VXLAN.now ∷ texts kinds.GENEVE.now ∷ texts kinds.GRE.now ∷ texts kinds.GRE.now
    ∷ texts kinds.IP_TUNNEL.now ∷ texts kinds.VTI.now ∷ texts kinds.XFRM.now ∷ texts smalls.NEXT_HOP.now
    ∷ texts smalls.NEXT_HOP_RES_GROUP.now ∷ texts smalls.NEXT_HOP_RES_BUCKET.now ∷ texts smalls.NEXT_HOP_GROUP_STATS.now
    ∷ texts smalls.NEXT_HOP_GROUP_STATS_ENTRY.now ∷ texts smalls.NSID.now ∷ texts smalls.PREFIX.now ∷ texts smalls.NETCONF.now
    ∷ texts smalls.NEIGHBOUR_TABLE.now ∷ texts smalls.NEIGHBOUR_TABLE_PARAMETER.now ∷ texts smalls.ADDRESS_LABEL.now
    ∷ [] ∷ texts traffic.TC.now ∷ texts traffic.STATS2.now ∷ texts traffic.STAB.now ∷ [] ∷ texts traffic.FQ_CODEL.now ∷ texts traffic.U32.now
    ∷ texts traffic.MATCH_ALL.now ∷ texts traffic.FLOWER.now ∷ texts traffic.FLOWER_MPLS.now ∷ texts traffic.FLOWER_MPLS_LSE.now
    ∷ texts traffic.ACTION_MESSAGE.now ∷ texts traffic.ACTION.now ∷ texts actions.MIRROR.now ∷ texts actions.NAT.now ∷ texts actions.TUNNEL_KEY.now
    ∷ [] ∷ texts traffic_kinds.HTB.now ∷ texts traffic_kinds.TBF.now ∷ texts traffic_kinds.RED.now ∷ texts traffic_kinds.FQ.now
    ∷ texts traffic_kinds.NETEM.now ∷ texts traffic_kinds.NETEM_LOSS.now ∷ texts traffic_kinds.FW.now ∷ texts traffic_kinds.BPF.now
    ∷ texts actions.GACT.now ∷ texts actions.POLICE.now ∷ texts actions.VLAN.now ∷ texts actions.SKBEDIT.now ∷ texts actions.CSUM.now
    ∷ texts actions.CT.now ∷ texts actions.SAMPLE.now ∷ texts actions.BPF.now
    ∷ texts traffic_kinds.CAKE.now ∷ texts traffic_kinds.CAKE_STATS.now ∷ [] ∷ texts traffic_kinds.CAKE_TIN_STATS.now
    ∷ texts traffic_kinds.MQPRIO.now ∷ texts traffic_kinds.MQPRIO_ENTRY.now ∷ texts traffic_kinds.BASIC.now
    ∷ texts traffic_kinds.EMATCH_TREE.now ∷ [] ∷ texts traffic.FLOWER_CFM.now ∷ texts actions.ENC.now ∷ texts actions.ENC_GENEVE.now
    ∷ texts actions.ENC_VXLAN.now ∷ texts actions.ENC_ERSPAN.now ∷ texts actions.ENC_GTP.now ∷ texts actions.ENC_PFCP.now
    ∷ texts actions.PEDIT.now ∷ texts actions.PEDIT.now ∷ texts actions.PEDIT_KEY_EX.now ∷ texts functions.MCTP.now
    ∷ texts functions.DPLL_PIN.now ∷ texts functions.HSR.now ∷ texts functions.OVPN.now ∷ texts smalls.NEIGHBOUR_FDB.now
    ∷ texts functions.GTP.now ∷ texts functions.IPOIB.now ∷ texts functions.MAC_SEC.now ∷ texts functions.VF_INFO_LIST.now
    ∷ texts functions.VF_INFO.now ∷ texts functions.VF_STATS.now ∷ texts functions.VF_VLAN.now
    ∷ texts functions.VF_PORTS.now ∷ texts functions.VF_PORT.now ∷ texts statistics.STATS.now ∷ texts statistics.LINK_XSTATS.now
    ∷ texts statistics.BRIDGE_XSTATS.now ∷ texts statistics.BOND_XSTATS.now ∷ texts statistics.BOND_AD_STAT.now
    ∷ texts statistics.OFFLOAD_XSTATS.now ∷ texts statistics.OFFLOAD_XSTATS.now ∷ texts statistics.OFFLOAD_HW_STATE.now
    ∷ texts links.AF_SPEC.now ∷ texts statistics.MPLS_STATS.now ∷ []

unfoldable pub names_of : AttributeSet → List (List ℕ)
names_of set = unwrap_or (slice_get lists (tag_of the_sets set)) []

-- the name of a number in a set: that at this place of its list, and none past its end
abbrev pub name_at : AttributeSet → ℕ → Option (List ℕ)
name_at set number = slice_get (names_of set) number
