-- The loss of packets by four states (linux/pkt_sched.h, struct tc_netem_gimodel): five numbers of 4.
use Rattle.std.proofs.Common.{refl}
use Rattle.npr_base.specs.Fields.{le_four, ◌fills◌, ◌then◌, last, structure}
use Rattle.npr_base.specs.Layout.{Layout}
use Rattle.npr_tc_qdiscs.specs.contracts.netem_gi_model.TcNetemGiModel.{struct}
use Rattle.npr_tc_qdiscs.specs.declared.netem_gi_model.TcNetemGiModel.{TcNetemGiModel}

-- in this order, little endian
abbrev pub netem_gi_model : Layout TcNetemGiModel
netem_gi_model =
    structure struct
    (TcNetemGiModel.p13 fills le_four then TcNetemGiModel.p31 fills le_four then TcNetemGiModel.p32 fills le_four then TcNetemGiModel.p14 fills le_four
    then last (TcNetemGiModel.p23 fills le_four)) refl (λ v. tt)
