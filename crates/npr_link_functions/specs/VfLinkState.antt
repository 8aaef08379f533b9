-- The state of the link of a virtual function (linux/if_link.h, struct ifla_vf_link_state): two numbers of 4, little endian.
use Rattle.std.proofs.Common.{refl}
use Rattle.npr_base.specs.Fields.{le_four, ◌holding◌, ◌fills◌, ◌then◌, last, structure}
use Rattle.npr_base.specs.Layout.{Layout}
use Rattle.npr_link_functions.specs.LinkState.{vf_link_states}
use Rattle.npr_link_functions.specs.contracts.vf_link_state.VfInfoLinkState.{struct}
use Rattle.npr_link_functions.specs.declared.vf_link_state.VfInfoLinkState.{VfInfoLinkState}

-- in this order, little endian
abbrev pub vf_state : Layout VfInfoLinkState
vf_state =
    structure struct
    (VfInfoLinkState.vf_id fills le_four then last (VfInfoLinkState.state fills le_four holding vf_link_states)) refl (λ v. tt)
