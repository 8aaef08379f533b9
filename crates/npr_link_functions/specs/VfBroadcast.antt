-- The broadcast address of a virtual function (linux/if_link.h, struct ifla_vf_broadcast): 32 bytes.
use Rattle.std.proofs.Common.{refl}
use Rattle.npr_base.specs.Fields.{◌fills◌, last, structure}
use Rattle.npr_base.specs.Layout.{Layout}
use Rattle.npr_base.specs.MoreFields.{bytes_field}
use Rattle.npr_link_functions.specs.contracts.vf_broadcast.VfInfoBroadcast.{struct}
use Rattle.npr_link_functions.specs.declared.vf_broadcast.VfInfoBroadcast.{VfInfoBroadcast}

-- in this order, little endian
abbrev pub vf_broadcast : Layout VfInfoBroadcast
vf_broadcast =
    structure struct
    (last (VfInfoBroadcast.addr fills bytes_field 32)) refl (λ v. tt)
