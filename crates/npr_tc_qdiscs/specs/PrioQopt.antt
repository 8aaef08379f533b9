-- The bands of `prio` (linux/pkt_sched.h, struct tc_prio_qopt): a signed number of 4, and 16 bytes.
use Rattle.std.proofs.Common.{refl}
use Rattle.npr_base.specs.Fields.{◌fills◌, ◌then◌, last, structure}
use Rattle.npr_base.specs.Layout.{Layout}
use Rattle.npr_base.specs.MoreFields.{bytes_field, signed_four}
use Rattle.npr_tc_qdiscs.specs.contracts.prio_qopt.TcPrioQopt.{struct}
use Rattle.npr_tc_qdiscs.specs.declared.prio_qopt.TcPrioQopt.{TcPrioQopt}

-- in this order, little endian
abbrev pub prio_qopt : Layout TcPrioQopt
prio_qopt =
    structure struct
    (TcPrioQopt.bands fills signed_four then last (TcPrioQopt.priomap fills bytes_field 16)) refl (λ v. tt)
