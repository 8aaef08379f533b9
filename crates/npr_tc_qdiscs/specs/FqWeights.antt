-- The weights of the bands of fq (linux/pkt_sched.h, TCA_FQ_WEIGHTS): signed numbers of four bytes each, the lowest first.
use Rattle.std.specs.Prelude.{ℤ, List}
use Rattle.npr_base.specs.Blocks.{blocks}
use Rattle.npr_base.specs.Codec.{Codec}
use Rattle.npr_base.specs.Words.{signed_words32}
use Rattle.npr_tc_qdiscs.specs.declared.fq_weights.TcFqWeights.{TcFqWeights}

-- the numbers, without where they lie in memory
abbrev pub fq_weights_of : TcFqWeights → List ℤ
fq_weights_of x = x.numbers.items

-- what is left at the end and too short for one is dropped
abbrev pub fq_weights : Codec (List ℤ)
fq_weights = blocks signed_words32.layout signed_words32.positive
