-- How a table of sizes is asked (linux/pkt_sched.h, struct tc_sizespec): eight numbers, two of them signed.
use Rattle.std.proofs.Common.{refl}
use Rattle.npr_base.specs.Fields.{one_byte, le_four, ◌fills◌, ◌then◌, last, structure}
use Rattle.npr_base.specs.Layout.{Layout}
use Rattle.npr_base.specs.MoreFields.{signed_four}
use Rattle.npr_base.specs.MoreFields.{signed_two}
use Rattle.npr_tc_qdiscs.specs.contracts.size_spec.TcSizeSpec.{struct}
use Rattle.npr_tc_qdiscs.specs.declared.size_spec.TcSizeSpec.{TcSizeSpec}

-- in this order, little endian
abbrev pub size_spec : Layout TcSizeSpec
size_spec =
    structure struct
    (TcSizeSpec.cell_log fills one_byte then TcSizeSpec.size_log fills one_byte then TcSizeSpec.cell_align fills signed_two
    then TcSizeSpec.overhead fills signed_four then TcSizeSpec.linklayer fills le_four then TcSizeSpec.mpu fills le_four
    then TcSizeSpec.mtu fills le_four then last (TcSizeSpec.tsize fills le_four)) refl (λ v. tt)
