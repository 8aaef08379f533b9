-- What mark of packets a u32 filter asks for: three numbers of four bytes (linux/pkt_cls.h, struct tc_u32_mark).
use Rattle.std.proofs.Common.{refl}
use Rattle.npr_base.specs.Fields.{le_four, ◌fills◌, ◌then◌, last, structure}
use Rattle.npr_base.specs.Layout.{Layout}
use Rattle.npr_tc_filters.specs.contracts.u32_mark.TcU32Mark.{struct}
use Rattle.npr_tc_filters.specs.declared.u32_mark.TcU32Mark.{TcU32Mark}

-- in this order, little endian
abbrev pub u32_mark : Layout TcU32Mark
u32_mark =
    structure struct
    (TcU32Mark.val fills le_four then TcU32Mark.mask fills le_four then last (TcU32Mark.success fills le_four)) refl (λ v. tt)
