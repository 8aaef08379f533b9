-- How often filters were asked, and matched: numbers of eight bytes, one behind the other (linux/pkt_cls.h, struct tc_u32_pcnt,
-- struct tc_matchall_pcnt and struct tc_basic_pcnt).
use Rattle.std.specs.Prelude.{ℕ, List, Option, None, Some, slice_get}
use Rattle.std.proofs.Common.{lit<}
use Rattle.npr_base.specs.Blocks.{blocks}
use Rattle.npr_base.specs.Codec.{Codec}
use Rattle.npr_base.specs.Layout.{le64}
use Rattle.npr_tc_filters.specs.declared.basic_pcnt.TcBasicPcnt.{TcBasicPcnt}
use Rattle.npr_tc_filters.specs.declared.match_all_pcnt.TcMatchAllPcnt.{TcMatchAllPcnt}
use Rattle.npr_tc_filters.specs.declared.u32_pcnt.TcU32Pcnt.{TcU32Pcnt}

-- little endian; what is left at the end and too short for one is dropped
abbrev pub hits : Codec (List ℕ)
hits = blocks le64 (lit< tt)

-- the one at a place, and 0 where there is none
abbrev pub or_zero : Option ℕ → ℕ
or_zero None = 0
or_zero (Some n) = n

abbrev pub hits_at : List ℕ → ℕ → ℕ
hits_at numbers place = or_zero (slice_get numbers place)

-- those of a filter, without where they lie in memory
abbrev pub u32_hits : TcU32Pcnt → List ℕ
u32_hits x = x.numbers.items

abbrev pub match_all_hits : TcMatchAllPcnt → List ℕ
match_all_hits x = x.numbers.items

abbrev pub basic_hits : TcBasicPcnt → List ℕ
basic_hits x = x.numbers.items
