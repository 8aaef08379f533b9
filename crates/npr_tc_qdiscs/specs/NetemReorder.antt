-- How many packets go before others (linux/pkt_sched.h, struct tc_netem_reorder): two numbers of 4.
use Rattle.std.proofs.Common.{refl}
use Rattle.npr_base.specs.Fields.{le_four, ◌fills◌, ◌then◌, last, structure}
use Rattle.npr_base.specs.Layout.{Layout}
use Rattle.npr_tc_qdiscs.specs.contracts.netem_reorder.TcNetemReorder.{struct}
use Rattle.npr_tc_qdiscs.specs.declared.netem_reorder.TcNetemReorder.{TcNetemReorder}

-- in this order, little endian
abbrev pub netem_reorder : Layout TcNetemReorder
netem_reorder =
    structure struct
    (TcNetemReorder.probability fills le_four then last (TcNetemReorder.correlation fills le_four)) refl (λ v. tt)
