-- The counters of fq_codel (linux/pkt_sched.h, struct tc_fq_codel_xstats): a mark of four bytes, and behind it those of the queueing
-- discipline or of a flow; whatever else is kept as it stands.
use Rattle.std.proofs.Common.{◌≡◌, ℕ, List, [], ◌∷◌, ◌++◌, length, take, drop, Bool, true, false, refl, sym, ap, ◌∙◌, take-append-drop}
use Rattle.std.specs.Str.{bytes_eq}
use Rattle.std.specs.Cmp.Lexicographic.{bytes_decides}
use Rattle.npr_base.specs.Codec.{Codec}
use Rattle.npr_base.specs.Numbering.{Numbering}
use Rattle.npr_tc_values.specs.declared.fq_codel_xstats.TcFqCodelXstats.{TcFqCodelXstats}
use Rattle.npr_tc_values.specs.declared.fq_codel_xstats.TcFqCodelXstats.TheVariants as Has
use Rattle.npr_tc_values.specs.Kept.{kept}

-- counters, without where they lie in memory: the bytes behind the mark, or all
pub data FqCodelXstats : Type 0 where
  qdisc : List ℕ → FqCodelXstats
  class : List ℕ → FqCodelXstats
  other : List ℕ → FqCodelXstats

abbrev pub fq_codel_xstats_of : TcFqCodelXstats → FqCodelXstats
fq_codel_xstats_of (Has.Qdisc x) = qdisc x.bytes.items
fq_codel_xstats_of (Has.Class x) = class x.bytes.items
fq_codel_xstats_of (Has.Other bytes) = other bytes.items

-- the marks: 0 and 1, the lowest byte first
abbrev pub qdisc_mark : List ℕ
qdisc_mark = 0 ∷ 0 ∷ 0 ∷ 0 ∷ []

abbrev pub class_mark : List ℕ
class_mark = 1 ∷ 0 ∷ 0 ∷ 0 ∷ []

-- whether bytes begin with a mark
abbrev pub has_mark : List ℕ → List ℕ → Bool
has_mark mark bytes = bytes_eq (take 4 bytes) mark

-- what bytes are, and the bytes of it
abbrev pub by_marks : Bool → Bool → List ℕ → FqCodelXstats
by_marks true c bytes = qdisc (drop 4 bytes)
by_marks false true bytes = class (drop 4 bytes)
by_marks false false bytes = other bytes

abbrev pub counters_in : List ℕ → FqCodelXstats
counters_in bytes = by_marks (has_mark qdisc_mark bytes) (has_mark class_mark bytes) bytes

abbrev pub counter_bytes : FqCodelXstats → List ℕ
counter_bytes (qdisc bytes) = qdisc_mark ++ bytes
counter_bytes (class bytes) = class_mark ++ bytes
counter_bytes (other bytes) = bytes

-- they come back
marked : (mark bytes : List ℕ) → has_mark mark bytes ≡ true → mark ++ drop 4 bytes ≡ bytes
marked mark bytes is = ap (λ (front : List ℕ). front ++ drop 4 bytes) (sym ((bytes_decides (take 4 bytes) mark).0 is)) ∙ take-append-drop 4 bytes

pub come_back : (q c : Bool) (bytes : List ℕ) → has_mark qdisc_mark bytes ≡ q → has_mark class_mark bytes ≡ c
    → counter_bytes (by_marks q c bytes) ≡ bytes
come_back true c bytes is js = marked qdisc_mark bytes is
come_back false true bytes is js = marked class_mark bytes js
come_back false false bytes is js = refl

abbrev pub fq_codel_counters : Numbering (List ℕ) FqCodelXstats
fq_codel_counters = record {
  of = counters_in;
  number = counter_bytes;
  back = λ bytes. come_back (has_mark qdisc_mark bytes) (has_mark class_mark bytes) bytes refl refl;
}

abbrev pub fq_codel_xstats : Codec FqCodelXstats
fq_codel_xstats = kept fq_codel_counters

-- how many bytes of it lie in memory
abbrev pub held_bytes : FqCodelXstats → ℕ
held_bytes (qdisc bytes) = length bytes
held_bytes (class bytes) = length bytes
held_bytes (other bytes) = length bytes
