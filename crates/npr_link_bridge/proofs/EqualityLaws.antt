-- What `==` answers of what is said of bridges: whether two values are equal, or mean the same.
use Rattle.std.specs.Cmp.{unsigned_Decides}
use Rattle.std.proofs.Common.{refl, rules}
use Rattle.npr_base.specs.Equality.{IsEquality, IsEqualityOf}
use Rattle.npr_base.proofs.EqualityLaws.{enum_equality, one_equality}
use Rattle.npr_base.specs.EnumTable.{◌also◌}
use Rattle.npr_base.proofs.FieldEquality.{one, list, number, truth, kept, nothing}
use Rattle.npr_base.proofs.IpLaws.{ipv4_equality, ipv6_equality}
use Rattle.npr_base.proofs.StructLaws.{◌beside◌, struct_equality}
use Rattle.npr_base.specs.Tables.{table_decides}
use Rattle.npr_base.specs.ViewEquality.{bytes_equality}
use Rattle.npr_link_bridge.specs.contracts.multicast_router.BridgeMulticastRouterType.{enum as router_type_enum}
use Rattle.npr_link_bridge.specs.contracts.multicast_router.BridgeMulticastRouterTypePartialEq.TheImpl as RouterTypeEq
use Rattle.npr_link_bridge.specs.contracts.port_state.BridgePortState.{enum as port_state_enum}
use Rattle.npr_link_bridge.specs.contracts.port_state.BridgePortStatePartialEq.TheImpl as PortStateEq
use Rattle.npr_link_bridge.specs.contracts.stp_state.BridgeStpState.{enum as stp_state_enum}
use Rattle.npr_link_bridge.specs.contracts.stp_state.BridgeStpStatePartialEq.TheImpl as StpStateEq
use Rattle.npr_link_bridge.specs.contracts.vlan_protocol.VlanProtocol.{enum as vlan_protocol_enum}
use Rattle.npr_link_bridge.specs.contracts.vlan_protocol.VlanProtocolPartialEq.TheImpl as VlanProtocolEq
use Rattle.npr_link_bridge.specs.contracts.boolean_options.BridgeBooleanOptionFlagsPartialEq.TheImpl as BooleanOptionFlagsEq
use Rattle.npr_link_bridge.specs.contracts.boolean_options.BridgeBooleanOptions.{struct as boolean_options_struct}
use Rattle.npr_link_bridge.specs.contracts.boolean_options.BridgeBooleanOptionsPartialEq.TheImpl as BooleanOptionsEq
use Rattle.npr_link_bridge.specs.contracts.bridge_id.BridgeId.{struct as bridge_id_struct}
use Rattle.npr_link_bridge.specs.contracts.bridge_id.BridgeIdPartialEq.TheImpl as BridgeIdEq
use Rattle.npr_link_bridge.specs.contracts.bridge_flag.BridgeFlag.{enum as bridge_flag_enum}
use Rattle.npr_link_bridge.specs.contracts.bridge_flag.BridgeFlagPartialEq.TheImpl as BridgeFlagEq
use Rattle.npr_link_bridge.specs.contracts.bridge_mode.BridgeMode.{enum as bridge_mode_enum}
use Rattle.npr_link_bridge.specs.contracts.bridge_mode.BridgeModePartialEq.TheImpl as BridgeModeEq
use Rattle.npr_link_bridge.specs.contracts.vlan_info_flags.BridgeVlanInfoFlagsPartialEq.TheImpl as VlanInfoFlagsEq
use Rattle.npr_link_bridge.specs.contracts.vlan_info.BridgeVlanInfo.{struct as vlan_info_struct}
use Rattle.npr_link_bridge.specs.contracts.vlan_info.BridgeVlanInfoPartialEq.TheImpl as VlanInfoEq
use Rattle.npr_link_bridge.specs.contracts.querier_state.BridgeQuerierStatePartialEq.TheImpl as QuerierEq
use Rattle.npr_link_bridge.specs.contracts.bridge.InfoBridgePartialEq.TheImpl as BridgeEq
use Rattle.npr_link_bridge.specs.contracts.bridge_port.InfoBridgePortPartialEq.TheImpl as BridgePortEq
use Rattle.npr_link_bridge.specs.QuerierState as OfQuerierState
use Rattle.npr_link_bridge.specs.Bridge as OfBridge
use Rattle.npr_link_bridge.specs.BridgePort as OfBridgePort
use Rattle.npr_link_bridge.specs.AfSpecBridge as OfAfSpecBridge
use Rattle.npr_link_bridge.specs.contracts.af_spec_bridge.AfSpecBridgePartialEq.TheImpl as AfSpecBridgeEq
use Rattle.npr_link_bridge.specs.Mst as OfMst
use Rattle.npr_link_bridge.specs.contracts.mst.BridgeMstPartialEq.TheImpl as MstEq
use Rattle.npr_link_bridge.specs.MstEntry as OfMstEntry
use Rattle.npr_link_bridge.specs.contracts.mst_entry.BridgeMstEntryPartialEq.TheImpl as MstEntryEq
use Rattle.npr_link_bridge.specs.VlanTunnel as OfVlanTunnel
use Rattle.npr_link_bridge.specs.contracts.vlan_tunnel.BridgeVlanTunnelInfoPartialEq.TheImpl as VlanTunnelEq

-- ---- enumerations, flags and structures

pub router_type_equality : IsEquality RouterTypeEq.ghosts.eq
router_type_equality = enum_equality router_type_enum _ refl (one_equality unsigned_Decides, tt)

pub port_state_equality : IsEquality PortStateEq.ghosts.eq
port_state_equality = enum_equality port_state_enum _ refl (one_equality unsigned_Decides, tt)

pub stp_state_equality : IsEquality StpStateEq.ghosts.eq
stp_state_equality = enum_equality stp_state_enum _ refl (one_equality unsigned_Decides, tt)

pub vlan_protocol_equality : IsEquality VlanProtocolEq.ghosts.eq
vlan_protocol_equality = enum_equality vlan_protocol_enum _ refl (one_equality unsigned_Decides, tt)

pub boolean_option_flags_equality : IsEquality BooleanOptionFlagsEq.ghosts.eq
boolean_option_flags_equality = search rules

pub boolean_options_equality : IsEquality BooleanOptionsEq.ghosts.eq
boolean_options_equality =
    struct_equality boolean_options_struct (λ v. tt) (λ d. refl)
    (boolean_option_flags_equality beside one_equality boolean_option_flags_equality)

pub bridge_id_equality : IsEquality BridgeIdEq.ghosts.eq
bridge_id_equality =
    struct_equality bridge_id_struct (λ v. tt) (λ d. refl)
    (unsigned_Decides beside one_equality bytes_equality)

pub bridge_flag_equality : IsEquality BridgeFlagEq.ghosts.eq
bridge_flag_equality = enum_equality bridge_flag_enum _ refl (one_equality unsigned_Decides, tt)

pub bridge_mode_equality : IsEquality BridgeModeEq.ghosts.eq
bridge_mode_equality = enum_equality bridge_mode_enum _ refl (one_equality unsigned_Decides, tt)

pub vlan_info_flags_equality : IsEquality VlanInfoFlagsEq.ghosts.eq
vlan_info_flags_equality = search rules

pub vlan_info_equality : IsEquality VlanInfoEq.ghosts.eq
vlan_info_equality =
    struct_equality vlan_info_struct (λ v. tt) (λ d. refl)
    (vlan_info_flags_equality beside one_equality unsigned_Decides)

-- ---- families

pub querier_equality : IsEqualityOf OfQuerierState.family.meaning QuerierEq.ghosts.eq
querier_equality =
    table_decides OfQuerierState.table _
    (one ipv4_equality also number also number also one ipv6_equality also number also number also kept also tt)

pub bridge_equality : IsEqualityOf OfBridge.family.meaning BridgeEq.ghosts.eq
bridge_equality =
    table_decides OfBridge.table _
    (number also number also number also number also one stp_state_equality also number also truth also
    one vlan_protocol_equality also number also one bridge_id_equality also one bridge_id_equality also number also number also
    number also number also number also number also number also number also one bytes_equality also nothing also
    one router_type_equality also truth also truth also truth also number also number also number also number also number also
    number also number also number also number also number also truth also truth also truth also number also truth also truth also
    number also number also truth also one boolean_options_equality also list querier_equality also number also number also
    number also kept also tt)

pub bridge_port_equality : IsEqualityOf OfBridgePort.family.meaning BridgePortEq.ghosts.eq
bridge_port_equality =
    table_decides OfBridgePort.table _
    (one port_state_equality also number also number also truth also truth also truth also truth also truth also truth also
    truth also truth also truth also one bridge_id_equality also one bridge_id_equality also number also number also number also
    number also truth also truth also number also number also number also nothing also one router_type_equality also truth also
    truth also truth also truth also number also truth also truth also number also truth also truth also number also number also
    truth also truth also number also number also truth also number also truth also kept also tt)

pub vlan_tunnel_equality : IsEqualityOf OfVlanTunnel.family.meaning VlanTunnelEq.ghosts.eq
vlan_tunnel_equality =
    table_decides OfVlanTunnel.table _
    (number also number also one vlan_info_flags_equality also kept also tt)

pub mst_entry_equality : IsEqualityOf OfMstEntry.family.meaning MstEntryEq.ghosts.eq
mst_entry_equality =
    table_decides OfMstEntry.table _
    (number also one port_state_equality also kept also tt)

pub mst_equality : IsEqualityOf OfMst.family.meaning MstEq.ghosts.eq
mst_equality =
    table_decides OfMst.table _
    (list mst_entry_equality also kept also tt)

pub af_spec_bridge_equality : IsEqualityOf OfAfSpecBridge.family.meaning AfSpecBridgeEq.ghosts.eq
af_spec_bridge_equality =
    table_decides OfAfSpecBridge.table _
    (one bridge_flag_equality also one bridge_mode_equality also one vlan_info_equality also list vlan_tunnel_equality also
    list mst_equality also kept also tt)
