-- What `tbf` lets through (linux/pkt_sched.h, struct tc_tbf_qopt): two rates of 12, and three numbers of 4.
use Rattle.std.proofs.Common.{refl}
use Rattle.npr_base.specs.Fields.{le_four, ◌fills◌, ◌then◌, last, structure}
use Rattle.npr_base.specs.Layout.{Layout}
use Rattle.npr_tc_values.specs.RateSpec.{rate_field}
use Rattle.npr_tc_qdiscs.specs.contracts.tbf_qopt.TcTbfQopt.{struct}
use Rattle.npr_tc_qdiscs.specs.declared.tbf_qopt.TcTbfQopt.{TcTbfQopt}

-- in this order, little endian
abbrev pub tbf_qopt : Layout TcTbfQopt
tbf_qopt =
    structure struct
    (TcTbfQopt.rate fills rate_field then TcTbfQopt.peakrate fills rate_field then TcTbfQopt.limit fills le_four then TcTbfQopt.buffer fills le_four
    then last (TcTbfQopt.mtu fills le_four)) refl (λ v. tt)
