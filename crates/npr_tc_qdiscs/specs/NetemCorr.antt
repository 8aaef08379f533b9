-- How far one packet is as the last (linux/pkt_sched.h, struct tc_netem_corr): three numbers of 4.
use Rattle.std.proofs.Common.{refl}
use Rattle.npr_base.specs.Fields.{le_four, ◌fills◌, ◌then◌, last, structure}
use Rattle.npr_base.specs.Layout.{Layout}
use Rattle.npr_tc_qdiscs.specs.contracts.netem_corr.TcNetemCorr.{struct}
use Rattle.npr_tc_qdiscs.specs.declared.netem_corr.TcNetemCorr.{TcNetemCorr}

-- in this order, little endian
abbrev pub netem_corr : Layout TcNetemCorr
netem_corr =
    structure struct
    (TcNetemCorr.delay_corr fills le_four then TcNetemCorr.loss_corr fills le_four then last (TcNetemCorr.dup_corr fills le_four)) refl (λ v. tt)
