-- How a rate is estimated (linux/pkt_sched.h, struct tc_estimator): a signed byte and one without a sign.
use Rattle.std.proofs.Common.{refl}
use Rattle.npr_base.specs.Fields.{one_byte, ◌fills◌, ◌then◌, last, structure}
use Rattle.npr_base.specs.Layout.{Layout}
use Rattle.npr_base.specs.MoreFields.{signed_one}
use Rattle.npr_tc_values.specs.contracts.estimator.TcEstimator.{struct}
use Rattle.npr_tc_values.specs.declared.estimator.TcEstimator.{TcEstimator}

-- in this order, little endian
abbrev pub estimator : Layout TcEstimator
estimator =
    structure struct
    (TcEstimator.interval fills signed_one then last (TcEstimator.ewma_log fills one_byte)) refl (λ v. tt)
