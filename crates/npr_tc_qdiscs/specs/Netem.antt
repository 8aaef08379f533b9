-- The data of netem (linux/pkt_sched.h, struct tc_netem_qopt and TCA_NETEM_*): a structure, and attributes to the end.
use Rattle.std.proofs.Common.{map}
use Rattle.npr_base.specs.Codec.{Codec}
use Rattle.npr_base.specs.declared.attribute_set.AttributeSet.TheVariants.{TcQdiscNetem as AtTcQdiscNetem}
use Rattle.npr_base.specs.Message.{Grammar, View}
use Rattle.npr_base.specs.MessageValue.{value_grammar, message_value}
use Rattle.npr_tc_qdiscs.specs.NetemOption as OfNetemOption
use Rattle.npr_tc_qdiscs.specs.NetemQopt.{netem_qopt}
use Rattle.npr_tc_qdiscs.specs.declared.netem.TcNetem.{TcNetem}
use Rattle.npr_tc_qdiscs.specs.declared.netem_option.TcQdiscNetemOption.{TcQdiscNetemOption}
use Rattle.npr_tc_qdiscs.specs.declared.netem_qopt.TcNetemQopt.{TcNetemQopt}

abbrev pub default_qopt : TcNetemQopt
default_qopt = record { latency = 0; limit = 0; loss = 0; gap = 0; duplicate = 0; jitter = 0 }

abbrev pub netems : Grammar TcNetemQopt TcQdiscNetemOption
netems = value_grammar OfNetemOption.family netem_qopt default_qopt

-- data, without where they lie in memory
abbrev pub netem_of : TcNetem → View netems
netem_of x = record { header = x.qopt; attributes = map OfNetemOption.family.meaning x.options.items }

abbrev pub netem : Codec (View netems)
netem = message_value OfNetemOption.family netem_qopt default_qopt AtTcQdiscNetem
