-- Between which rates a virtual function sends (linux/if_link.h, struct ifla_vf_rate): three numbers of 4, little endian.
use Rattle.std.proofs.Common.{refl}
use Rattle.npr_base.specs.Fields.{le_four, ◌fills◌, ◌then◌, last, structure}
use Rattle.npr_base.specs.Layout.{Layout}
use Rattle.npr_link_functions.specs.contracts.vf_rate.VfInfoRate.{struct}
use Rattle.npr_link_functions.specs.declared.vf_rate.VfInfoRate.{VfInfoRate}

-- in this order, little endian
abbrev pub vf_rate : Layout VfInfoRate
vf_rate =
    structure struct
    (VfInfoRate.vf_id fills le_four then VfInfoRate.min_tx_rate fills le_four then last (VfInfoRate.max_tx_rate fills le_four)) refl (λ v. tt)
