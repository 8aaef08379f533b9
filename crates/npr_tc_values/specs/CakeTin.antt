-- Tins of `cake` (linux/pkt_sched.h, TCA_CAKE_STATS_TIN_STATS): in a list of tins each attribute is one, whose number is its place, and
-- whose value is a list of its counters.
use Rattle.std.proofs.Common.{List, map}
use Rattle.npr_base.specs.Codec.{Codec}
use Rattle.npr_base.specs.declared.attribute_set.AttributeSet.TheVariants.{TcCakeTins as AtTcCakeTins, TcCakeTinStat as AtTcCakeTinStat}
use Rattle.npr_base.specs.Family.{Reading, Family}
use Rattle.npr_base.specs.ListCodec.{list_of}
use Rattle.npr_tc_values.specs.CakeTinStat as OfCakeTinStat
use Rattle.npr_tc_values.specs.declared.cake_tin.TcCakeTin.{TcCakeTin}
use Rattle.npr_tc_values.specs.Numbered as Of
use Rattle.npr_tc_values.specs.Numbered.{Numbered}

-- the counters of one
abbrev pub tin_stats : Codec (List OfCakeTinStat.family.Meaning)
tin_stats = list_of AtTcCakeTinStat OfCakeTinStat.attributes

-- what a tin is, without where it lies in memory
abbrev pub Meaning : Type 0
Meaning = Numbered (List OfCakeTinStat.family.Meaning)

abbrev pub meaning : TcCakeTin → Meaning
meaning a = record { number = a.tab; value = map OfCakeTinStat.family.meaning a.stats.items }

abbrev pub attributes : Reading (Of.writing AtTcCakeTins tin_stats)
attributes = Of.numbered AtTcCakeTins tin_stats

abbrev pub family : Family TcCakeTin (Unit {0})
family = record { Meaning = Meaning; meaning = meaning; writing = Of.writing AtTcCakeTins tin_stats; reading = λ c. attributes }
