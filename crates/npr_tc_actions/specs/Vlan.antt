-- What an action does with VLANs (linux/tc_act/tc_vlan.h, struct tc_vlan): what every action has, and a signed number of 4.
use Rattle.std.proofs.Common.{refl}
use Rattle.npr_base.specs.Fields.{◌holding◌, ◌fills◌, ◌then◌, last, structure}
use Rattle.npr_base.specs.Layout.{Layout}
use Rattle.npr_base.specs.MoreFields.{signed_four}
use Rattle.npr_tc_actions.specs.Generic.{generic_field}
use Rattle.npr_tc_actions.specs.VlanActionType.{vlan_action_types}
use Rattle.npr_tc_actions.specs.contracts.vlan.TcVlan.{struct}
use Rattle.npr_tc_actions.specs.declared.vlan.TcVlan.{TcVlan}

-- in this order, little endian
abbrev pub vlan : Layout TcVlan
vlan =
    structure struct
    (TcVlan.generic fills generic_field then last (TcVlan.v_action fills (signed_four holding vlan_action_types))) refl (λ v. tt)
