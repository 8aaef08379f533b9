-- The keys of a u32 filter (linux/pkt_cls.h, struct tc_u32_key): sixteen bytes each.
use Rattle.std.specs.Prelude.{pos}
use Rattle.std.proofs.Common.{refl, lit<}
use Rattle.npr_base.specs.Blocks.{Width}
use Rattle.npr_base.specs.Fields.{be_four, ◌fills◌, ◌then◌, last, structure}
use Rattle.npr_base.specs.Layout.{Layout}
use Rattle.npr_base.specs.MoreFields.{signed_four}
use Rattle.npr_tc_filters.specs.contracts.u32_key.TcU32Key.{struct}
use Rattle.npr_tc_filters.specs.declared.u32_key.TcU32Key.{TcU32Key}

-- in this order: mask and value are bytes of packets, the highest first
abbrev pub u32_key : Layout TcU32Key
u32_key =
    structure struct
    (TcU32Key.mask fills be_four then TcU32Key.val fills be_four then TcU32Key.off fills signed_four
    then last (TcU32Key.offmask fills signed_four)) refl (λ v. tt)

-- always in sixteen bytes
abbrev pub u32_key_width : Width TcU32Key
u32_key_width = record { layout = u32_key; positive = lit< tt; long = λ x. refl; none = record { mask = 0; val = 0; off = pos 0; offmask = pos 0 } }
