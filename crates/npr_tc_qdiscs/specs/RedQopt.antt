-- When `red` drops (linux/pkt_sched.h, struct tc_red_qopt): three numbers of 4, and four bytes.
use Rattle.std.proofs.Common.{refl}
use Rattle.npr_base.specs.Fields.{one_byte, le_four, ◌fills◌, ◌then◌, last, structure}
use Rattle.npr_base.specs.Layout.{Layout}
use Rattle.npr_tc_qdiscs.specs.contracts.red_qopt.TcRedQopt.{struct}
use Rattle.npr_tc_qdiscs.specs.declared.red_qopt.TcRedQopt.{TcRedQopt}

-- in this order, little endian
abbrev pub red_qopt : Layout TcRedQopt
red_qopt =
    structure struct
    (TcRedQopt.limit fills le_four then TcRedQopt.qth_min fills le_four then TcRedQopt.qth_max fills le_four then TcRedQopt.wlog fills one_byte
    then TcRedQopt.plog fills one_byte then TcRedQopt.scell_log fills one_byte then last (TcRedQopt.flags fills one_byte)) refl (λ v. tt)
