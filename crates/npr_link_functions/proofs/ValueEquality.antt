-- What `==` answers of the values of virtual functions that hold no vector: whether they are equal.
use Rattle.std.specs.Cmp.{unsigned_Decides}
use Rattle.std.proofs.Common.{refl}
use Rattle.npr_base.specs.Equality.{IsEquality}
use Rattle.npr_base.specs.ViewEquality.{bytes_equality}
use Rattle.npr_base.proofs.EqualityLaws.{enum_equality, one_equality}
use Rattle.npr_base.proofs.StructLaws.{◌beside◌, struct_equality}
use Rattle.npr_link_bridge.proofs.EqualityLaws.{vlan_protocol_equality}
use Rattle.npr_link_functions.specs.contracts.link_state.VfLinkState.{enum as state_enum}
use Rattle.npr_link_functions.specs.contracts.link_state.VfLinkStatePartialEq.TheImpl as StateEq
use Rattle.npr_link_functions.specs.contracts.vf_mac.VfInfoMac.{struct as mac_struct}
use Rattle.npr_link_functions.specs.contracts.vf_mac.VfInfoMacPartialEq.TheImpl as VfInfoMacEq
use Rattle.npr_link_functions.specs.contracts.vf_broadcast.VfInfoBroadcast.{struct as broadcast_struct}
use Rattle.npr_link_functions.specs.contracts.vf_broadcast.VfInfoBroadcastPartialEq.TheImpl as VfInfoBroadcastEq
use Rattle.npr_link_functions.specs.contracts.vf_vlan.VfInfoVlan.{struct as vlan_struct}
use Rattle.npr_link_functions.specs.contracts.vf_vlan.VfInfoVlanPartialEq.TheImpl as VfInfoVlanEq
use Rattle.npr_link_functions.specs.contracts.vf_tx_rate.VfInfoTxRate.{struct as tx_rate_struct}
use Rattle.npr_link_functions.specs.contracts.vf_tx_rate.VfInfoTxRatePartialEq.TheImpl as VfInfoTxRateEq
use Rattle.npr_link_functions.specs.contracts.vf_rate.VfInfoRate.{struct as rate_struct}
use Rattle.npr_link_functions.specs.contracts.vf_rate.VfInfoRatePartialEq.TheImpl as VfInfoRateEq
use Rattle.npr_link_functions.specs.contracts.vf_setting.VfInfoSetting.{struct as setting_struct}
use Rattle.npr_link_functions.specs.contracts.vf_setting.VfInfoSettingPartialEq.TheImpl as VfInfoSettingEq
use Rattle.npr_link_functions.specs.contracts.vf_link_state.VfInfoLinkState.{struct as link_state_of_struct}
use Rattle.npr_link_functions.specs.contracts.vf_link_state.VfInfoLinkStatePartialEq.TheImpl as VfInfoLinkStateEq
use Rattle.npr_link_functions.specs.contracts.vf_guid.VfInfoGuid.{struct as guid_struct}
use Rattle.npr_link_functions.specs.contracts.vf_guid.VfInfoGuidPartialEq.TheImpl as VfInfoGuidEq
use Rattle.npr_link_functions.specs.contracts.vf_vlan_info.VfVlanInfo.{struct as vlan_info_struct}
use Rattle.npr_link_functions.specs.contracts.vf_vlan_info.VfVlanInfoPartialEq.TheImpl as VfVlanInfoEq

pub vf_link_state_equality : IsEquality StateEq.ghosts.eq
vf_link_state_equality = enum_equality state_enum _ refl (one_equality unsigned_Decides, tt)

pub mac_equality : IsEquality VfInfoMacEq.ghosts.eq
mac_equality = struct_equality mac_struct (λ v. tt) (λ d. refl) (unsigned_Decides beside one_equality bytes_equality)

pub broadcast_equality : IsEquality VfInfoBroadcastEq.ghosts.eq
broadcast_equality = struct_equality broadcast_struct (λ v. tt) (λ d. refl) (one_equality bytes_equality)

pub vlan_equality : IsEquality VfInfoVlanEq.ghosts.eq
vlan_equality = struct_equality vlan_struct (λ v. tt) (λ d. refl) (unsigned_Decides beside unsigned_Decides beside one_equality unsigned_Decides)

pub tx_rate_equality : IsEquality VfInfoTxRateEq.ghosts.eq
tx_rate_equality = struct_equality tx_rate_struct (λ v. tt) (λ d. refl) (unsigned_Decides beside one_equality unsigned_Decides)

pub rate_equality : IsEquality VfInfoRateEq.ghosts.eq
rate_equality = struct_equality rate_struct (λ v. tt) (λ d. refl) (unsigned_Decides beside unsigned_Decides beside one_equality unsigned_Decides)

pub setting_equality : IsEquality VfInfoSettingEq.ghosts.eq
setting_equality = struct_equality setting_struct (λ v. tt) (λ d. refl) (unsigned_Decides beside one_equality unsigned_Decides)

pub link_state_of_equality : IsEquality VfInfoLinkStateEq.ghosts.eq
link_state_of_equality = struct_equality link_state_of_struct (λ v. tt) (λ d. refl) (unsigned_Decides beside one_equality vf_link_state_equality)

pub guid_equality : IsEquality VfInfoGuidEq.ghosts.eq
guid_equality = struct_equality guid_struct (λ v. tt) (λ d. refl) (unsigned_Decides beside one_equality unsigned_Decides)

pub vlan_info_equality : IsEquality VfVlanInfoEq.ghosts.eq
vlan_info_equality = struct_equality vlan_info_struct (λ v. tt) (λ d. refl) (unsigned_Decides beside unsigned_Decides beside unsigned_Decides beside one_equality vlan_protocol_equality)
