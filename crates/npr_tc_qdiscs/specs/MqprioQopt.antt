-- The queues of `mqprio` (linux/pkt_sched.h, struct tc_mqprio_qopt): a byte, 16 bytes, a byte, and twice 16 numbers of 2.
use Rattle.std.proofs.Common.{refl}
use Rattle.npr_base.specs.Fields.{one_byte, ◌fills◌, ◌then◌, last, structure}
use Rattle.npr_base.specs.Layout.{Layout}
use Rattle.npr_base.specs.MoreFields.{bytes_field}
use Rattle.npr_tc_qdiscs.specs.WordsField.{words_field}
use Rattle.npr_tc_qdiscs.specs.contracts.mqprio_qopt.TcMqprioQopt.{struct}
use Rattle.npr_tc_qdiscs.specs.declared.mqprio_qopt.TcMqprioQopt.{TcMqprioQopt}

-- in this order, little endian
abbrev pub mqprio_qopt : Layout TcMqprioQopt
mqprio_qopt =
    structure struct
    (TcMqprioQopt.num_tc fills one_byte then TcMqprioQopt.prio_tc_map fills bytes_field 16 then TcMqprioQopt.hw fills one_byte
    then TcMqprioQopt.count fills words_field 16 then last (TcMqprioQopt.offset fills words_field 16)) refl (λ v. tt)
