-- A setting of a virtual function that is on or off (struct ifla_vf_spoofchk, struct ifla_vf_rss_query_en and struct
-- ifla_vf_trust of linux/if_link.h): two numbers of 4, little endian.
use Rattle.std.specs.Prelude.{Bool, not, ◌==◌, ◌&&◌}
use Rattle.std.proofs.Common.{refl}
use Rattle.npr_base.specs.Fields.{le_four, ◌fills◌, ◌then◌, last, structure}
use Rattle.npr_base.specs.Layout.{Layout}
use Rattle.npr_link_functions.specs.contracts.vf_setting.VfInfoSetting.{struct}
use Rattle.npr_link_functions.specs.declared.vf_setting.VfInfoSetting.{VfInfoSetting}

-- in this order, little endian
abbrev pub vf_setting : Layout VfInfoSetting
vf_setting =
    structure struct
    (VfInfoSetting.vf_id fills le_four then last (VfInfoSetting.setting fills le_four)) refl (λ v. tt)

-- it is on where it is set, and the driver says it
abbrev pub is_on : VfInfoSetting → Bool
is_on x = not (x.setting == 0) && not (x.setting == 4294967295)
