-- The data of mqprio (linux/pkt_sched.h, struct tc_mqprio_qopt and TCA_MQPRIO_*): a structure of 82 bytes, two that are not looked at, up to
-- the next multiple of 4, and attributes to the end.
use Rattle.std.proofs.Common.{ℕ, List, map, lit≤, replicate}
use Rattle.npr_base.specs.Codec.{Codec}
use Rattle.npr_base.specs.declared.attribute_set.AttributeSet.TheVariants.{TcQdiscMqprio as AtTcQdiscMqprio}
use Rattle.npr_base.specs.Message.{Message}
use Rattle.npr_tc_qdiscs.specs.MqprioOption as OfMqprioOption
use Rattle.npr_tc_qdiscs.specs.MqprioQopt.{mqprio_qopt}
use Rattle.npr_tc_qdiscs.specs.Spaced.{place, spaced}
use Rattle.npr_tc_qdiscs.specs.declared.mqprio.TcMqprio.{TcMqprio}
use Rattle.npr_tc_qdiscs.specs.declared.mqprio_qopt.TcMqprioQopt.{TcMqprioQopt}

-- data, without where they lie in memory
abbrev pub Mqprio : Type 0
Mqprio = Message TcMqprioQopt OfMqprioOption.family.Meaning

abbrev pub mqprio_of : TcMqprio → Mqprio
mqprio_of x = record { header = x.qopt; attributes = map OfMqprioOption.family.meaning x.options.items }

-- what stands between the structure and the attributes
abbrev pub space : List ℕ
space = replicate 2 0

-- where the attributes begin
abbrev pub options_place : ℕ
options_place = place AtTcQdiscMqprio OfMqprioOption.attributes mqprio_qopt 2

abbrev pub mqprio : Codec Mqprio
mqprio = spaced AtTcQdiscMqprio OfMqprioOption.attributes mqprio_qopt 2 (lit≤ tt) (lit≤ tt)
