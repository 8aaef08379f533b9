-- A globally unique identifier of a virtual function of InfiniBand (linux/if_link.h, struct ifla_vf_guid): a number of 4,
-- four bytes of padding, which are not looked at and written 0, and a number of 8, little endian.
use Rattle.std.proofs.Common.{refl}
use Rattle.npr_base.specs.Fields.{le_four, le_eight, unused, ◌before◌, ◌fills◌, ◌then◌, last, structure}
use Rattle.npr_base.specs.Layout.{Layout}
use Rattle.npr_link_functions.specs.contracts.vf_guid.VfInfoGuid.{struct}
use Rattle.npr_link_functions.specs.declared.vf_guid.VfInfoGuid.{VfInfoGuid}

-- in this order, little endian
abbrev pub vf_guid : Layout VfInfoGuid
vf_guid =
    structure struct
    (VfInfoGuid.vf_id fills le_four then last (VfInfoGuid.guid fills unused before unused before unused before unused before le_eight)) refl (λ v. tt)
