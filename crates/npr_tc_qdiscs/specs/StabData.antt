-- The numbers of a table of sizes (linux/pkt_sched.h, TCA_STAB_DATA): two bytes each, the lowest first.
use Rattle.std.specs.Prelude.{ℕ, List}
use Rattle.npr_base.specs.Blocks.{blocks}
use Rattle.npr_base.specs.Codec.{Codec}
use Rattle.npr_base.specs.Words.{words16}
use Rattle.npr_tc_qdiscs.specs.declared.stab_data.TcStabData.{TcStabData}

-- the numbers, without where they lie in memory
abbrev pub stab_data_of : TcStabData → List ℕ
stab_data_of x = x.numbers.items

-- what is left at the end and too short for one is dropped
abbrev pub stab_data : Codec (List ℕ)
stab_data = blocks words16.layout words16.positive
