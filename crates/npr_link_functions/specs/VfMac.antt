-- The address of a virtual function (linux/if_link.h, struct ifla_vf_mac): a number of 4, and 32 bytes, little endian.
use Rattle.std.proofs.Common.{refl}
use Rattle.npr_base.specs.Fields.{le_four, ◌fills◌, ◌then◌, last, structure}
use Rattle.npr_base.specs.Layout.{Layout}
use Rattle.npr_base.specs.MoreFields.{bytes_field}
use Rattle.npr_link_functions.specs.contracts.vf_mac.VfInfoMac.{struct}
use Rattle.npr_link_functions.specs.declared.vf_mac.VfInfoMac.{VfInfoMac}

-- in this order, little endian
abbrev pub vf_mac : Layout VfInfoMac
vf_mac =
    structure struct
    (VfInfoMac.vf_id fills le_four then last (VfInfoMac.mac fills bytes_field 32)) refl (λ v. tt)
