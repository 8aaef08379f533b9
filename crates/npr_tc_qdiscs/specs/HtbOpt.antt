-- What a class of `htb` may send (linux/pkt_sched.h, struct tc_htb_opt): two rates of 12, and five numbers of 4.
use Rattle.std.proofs.Common.{refl}
use Rattle.npr_base.specs.Fields.{le_four, ◌fills◌, ◌then◌, last, structure}
use Rattle.npr_base.specs.Layout.{Layout}
use Rattle.npr_tc_values.specs.RateSpec.{rate_field}
use Rattle.npr_tc_qdiscs.specs.contracts.htb_opt.TcHtbOpt.{struct}
use Rattle.npr_tc_qdiscs.specs.declared.htb_opt.TcHtbOpt.{TcHtbOpt}

-- in this order, little endian
abbrev pub htb_opt : Layout TcHtbOpt
htb_opt =
    structure struct
    (TcHtbOpt.rate fills rate_field then TcHtbOpt.ceil fills rate_field then TcHtbOpt.buffer fills le_four then TcHtbOpt.cbuffer fills le_four
    then TcHtbOpt.quantum fills le_four then TcHtbOpt.level fills le_four then last (TcHtbOpt.prio fills le_four)) refl (λ v. tt)
