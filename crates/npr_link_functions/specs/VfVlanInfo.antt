-- One of the VLANs of a virtual function (linux/if_link.h, struct ifla_vf_vlan_info): three numbers of 4, little endian, one
-- of 2, big endian, and two bytes of padding, which are not looked at and written 0.
use Rattle.std.proofs.Common.{refl}
use Rattle.npr_base.specs.Fields.{be_two, le_four, unused, ◌holding◌, ◌fills◌, ◌then◌, last, structure}
use Rattle.npr_base.specs.Layout.{Layout}
use Rattle.npr_base.specs.MoreFields.{◌behind◌}
use Rattle.npr_link_bridge.specs.VlanProtocol.{vlan_protocols}
use Rattle.npr_link_functions.specs.contracts.vf_vlan_info.VfVlanInfo.{struct}
use Rattle.npr_link_functions.specs.declared.vf_vlan_info.VfVlanInfo.{VfVlanInfo}

-- in this order, little endian
abbrev pub vf_vlan_info : Layout VfVlanInfo
vf_vlan_info =
    structure struct
    (VfVlanInfo.vf_id fills le_four then VfVlanInfo.vlan_id fills le_four then VfVlanInfo.qos fills le_four
    then last (VfVlanInfo.protocol fills be_two holding vlan_protocols behind unused behind unused)) refl (λ v. tt)
