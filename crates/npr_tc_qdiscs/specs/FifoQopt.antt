-- How much a queue holds (linux/pkt_sched.h, struct tc_fifo_qopt): a number of 4.
use Rattle.std.proofs.Common.{refl}
use Rattle.npr_base.specs.Fields.{le_four, ◌fills◌, last, structure}
use Rattle.npr_base.specs.Layout.{Layout}
use Rattle.npr_tc_qdiscs.specs.contracts.fifo_qopt.TcFifoQopt.{struct}
use Rattle.npr_tc_qdiscs.specs.declared.fifo_qopt.TcFifoQopt.{TcFifoQopt}

-- in this order, little endian
abbrev pub fifo_qopt : Layout TcFifoQopt
fifo_qopt =
    structure struct
    (last (TcFifoQopt.limit fills le_four)) refl (λ v. tt)
