-- A VLAN of a port (linux/if_bridge.h, struct bridge_vlan_info): flags and id, two bytes each, little endian.
use Rattle.std.proofs.Common.{refl}
use Rattle.npr_base.specs.Fields.{le_two, ◌holding◌, ◌fills◌, ◌then◌, last, structure}
use Rattle.npr_base.specs.Layout.{Layout}
use Rattle.npr_link_bridge.specs.VlanInfoFlags.{vlan_info_flag_bits}
use Rattle.npr_link_bridge.specs.contracts.vlan_info.BridgeVlanInfo.{struct}
use Rattle.npr_link_bridge.specs.declared.vlan_info.BridgeVlanInfo.{BridgeVlanInfo}

abbrev pub vlan_info : Layout BridgeVlanInfo
vlan_info =
    structure struct
    (BridgeVlanInfo.flags fills le_two holding vlan_info_flag_bits
    then last (BridgeVlanInfo.vid fills le_two)) refl (λ v. tt)
