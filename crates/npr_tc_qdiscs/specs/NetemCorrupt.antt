-- How many packets are damaged (linux/pkt_sched.h, struct tc_netem_corrupt): two numbers of 4.
use Rattle.std.proofs.Common.{refl}
use Rattle.npr_base.specs.Fields.{le_four, ◌fills◌, ◌then◌, last, structure}
use Rattle.npr_base.specs.Layout.{Layout}
use Rattle.npr_tc_qdiscs.specs.contracts.netem_corrupt.TcNetemCorrupt.{struct}
use Rattle.npr_tc_qdiscs.specs.declared.netem_corrupt.TcNetemCorrupt.{TcNetemCorrupt}

-- in this order, little endian
abbrev pub netem_corrupt : Layout TcNetemCorrupt
netem_corrupt =
    structure struct
    (TcNetemCorrupt.probability fills le_four then last (TcNetemCorrupt.correlation fills le_four)) refl (λ v. tt)
