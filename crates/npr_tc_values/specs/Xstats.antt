-- The counters of a kind (linux/rtnetlink.h, TCA_XSTATS; linux/gen_stats.h, TCA_STATS_APP), by what governs them.
use Rattle.std.specs.Prelude.{ℕ, List, map}
use Rattle.std.proofs.Common.{refl}
use Rattle.npr_base.specs.Codec.{Codec}
use Rattle.npr_base.specs.Choices.{Held, as_bytes, as_list, Case, bytes_case, list_case, chosen}
use Rattle.npr_base.specs.declared.attribute_set.AttributeSet.TheVariants.{TcCakeStat as AtTcCakeStat}
use Rattle.npr_tc_values.specs.CakeStat as OfCakeStat
use Rattle.npr_tc_values.specs.FqCodelXstats.{FqCodelXstats, fq_codel_xstats_of, fq_codel_counters, held_bytes}
use Rattle.npr_tc_values.specs.Kept.{as_kept, kept_case}
use Rattle.npr_tc_values.specs.declared.form.TcForm.{TcForm}
use Rattle.npr_tc_values.specs.declared.xstats.TcXstats.{TcXstats}
use Rattle.npr_tc_values.specs.declared.xstats.TcXstats.TheVariants as Has

-- counters, without where they lie in memory
pub data Xstats : Type 0 where
  fq_codel : FqCodelXstats → Xstats
  htb : List ℕ → Xstats
  fq : List ℕ → Xstats
  red : List ℕ → Xstats
  netem : List ℕ → Xstats
  sfq : List ℕ → Xstats
  cake : List OfCakeStat.family.Meaning → Xstats
  other : List ℕ → Xstats

abbrev pub xstats_of : TcXstats → Xstats
xstats_of (Has.FqCodel x) = fq_codel (fq_codel_xstats_of x)
xstats_of (Has.Htb x) = htb x.bytes.items
xstats_of (Has.Fq x) = fq x.bytes.items
xstats_of (Has.Red x) = red x.bytes.items
xstats_of (Has.Netem x) = netem x.bytes.items
xstats_of (Has.Sfq x) = sfq x.bytes.items
xstats_of (Has.Cake xs) = cake (map OfCakeStat.family.meaning xs.items)
xstats_of (Has.Other bytes) = other bytes.items

-- how they are written, whatever governs
abbrev pub held : Xstats → Held
held (fq_codel x) = as_kept fq_codel_counters held_bytes x
held (htb bytes) = as_bytes bytes
held (fq bytes) = as_bytes bytes
held (red bytes) = as_bytes bytes
held (netem bytes) = as_bytes bytes
held (sfq bytes) = as_bytes bytes
held (cake xs) = as_list AtTcCakeStat OfCakeStat.attributes xs
held (other bytes) = as_bytes bytes

-- and read: bytes where a kind has none
abbrev pub case : TcForm → Case held
case TcForm.FqCodel = kept_case fq_codel_counters held held_bytes fq_codel (λ x. refl)
case TcForm.Htb = bytes_case held htb (λ bytes. refl)
case TcForm.Fq = bytes_case held fq (λ bytes. refl)
case TcForm.Red = bytes_case held red (λ bytes. refl)
case TcForm.Netem = bytes_case held netem (λ bytes. refl)
case TcForm.Sfq = bytes_case held sfq (λ bytes. refl)
case TcForm.Cake = list_case held AtTcCakeStat OfCakeStat.attributes cake (λ xs. refl)
case form = bytes_case held other (λ bytes. refl)

abbrev pub xstats : TcForm → Codec Xstats
xstats form = chosen held (case form)
