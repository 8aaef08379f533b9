-- The loss of packets by two states (linux/pkt_sched.h, struct tc_netem_gemodel): four numbers of 4.
use Rattle.std.proofs.Common.{refl}
use Rattle.npr_base.specs.Fields.{le_four, ◌fills◌, ◌then◌, last, structure}
use Rattle.npr_base.specs.Layout.{Layout}
use Rattle.npr_tc_qdiscs.specs.contracts.netem_ge_model.TcNetemGeModel.{struct}
use Rattle.npr_tc_qdiscs.specs.declared.netem_ge_model.TcNetemGeModel.{TcNetemGeModel}

-- in this order, little endian
abbrev pub netem_ge_model : Layout TcNetemGeModel
netem_ge_model =
    structure struct
    (TcNetemGeModel.p fills le_four then TcNetemGeModel.r fills le_four then TcNetemGeModel.h fills le_four
    then last (TcNetemGeModel.k1 fills le_four)) refl (λ v. tt)
