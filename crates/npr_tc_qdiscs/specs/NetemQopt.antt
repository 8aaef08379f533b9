-- What `netem` does to packets (linux/pkt_sched.h, struct tc_netem_qopt): six numbers of 4.
use Rattle.std.proofs.Common.{refl}
use Rattle.npr_base.specs.Fields.{le_four, ◌fills◌, ◌then◌, last, structure}
use Rattle.npr_base.specs.Layout.{Layout}
use Rattle.npr_tc_qdiscs.specs.contracts.netem_qopt.TcNetemQopt.{struct}
use Rattle.npr_tc_qdiscs.specs.declared.netem_qopt.TcNetemQopt.{TcNetemQopt}

-- in this order, little endian
abbrev pub netem_qopt : Layout TcNetemQopt
netem_qopt =
    structure struct
    (TcNetemQopt.latency fills le_four then TcNetemQopt.limit fills le_four then TcNetemQopt.loss fills le_four then TcNetemQopt.gap fills le_four
    then TcNetemQopt.duplicate fills le_four then last (TcNetemQopt.jitter fills le_four)) refl (λ v. tt)
