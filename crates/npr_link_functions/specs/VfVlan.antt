-- The VLAN of a virtual function (linux/if_link.h, struct ifla_vf_vlan): three numbers of 4, little endian.
use Rattle.std.proofs.Common.{refl}
use Rattle.npr_base.specs.Fields.{le_four, ◌fills◌, ◌then◌, last, structure}
use Rattle.npr_base.specs.Layout.{Layout}
use Rattle.npr_link_functions.specs.contracts.vf_vlan.VfInfoVlan.{struct}
use Rattle.npr_link_functions.specs.declared.vf_vlan.VfInfoVlan.{VfInfoVlan}

-- in this order, little endian
abbrev pub vf_vlan : Layout VfInfoVlan
vf_vlan =
    structure struct
    (VfInfoVlan.vf_id fills le_four then VfInfoVlan.vlan_id fills le_four then last (VfInfoVlan.qos fills le_four)) refl (λ v. tt)
