-- How fast a virtual function may send (linux/if_link.h, struct ifla_vf_tx_rate): two numbers of 4, little endian.
use Rattle.std.proofs.Common.{refl}
use Rattle.npr_base.specs.Fields.{le_four, ◌fills◌, ◌then◌, last, structure}
use Rattle.npr_base.specs.Layout.{Layout}
use Rattle.npr_link_functions.specs.contracts.vf_tx_rate.VfInfoTxRate.{struct}
use Rattle.npr_link_functions.specs.declared.vf_tx_rate.VfInfoTxRate.{VfInfoTxRate}

-- in this order, little endian
abbrev pub vf_tx_rate : Layout VfInfoTxRate
vf_tx_rate =
    structure struct
    (VfInfoTxRate.vf_id fills le_four then last (VfInfoTxRate.rate fills le_four)) refl (λ v. tt)
