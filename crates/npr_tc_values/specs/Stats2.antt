-- What went by (linux/gen_stats.h, TCA_STATS_*), by the table under what governs the message.
use Rattle.std.proofs.Common.{◌≡◌, inl, inr}
use Rattle.npr_base.specs.declared.attribute_set.AttributeSet.TheVariants.{TcStats2 as AtStats2}
use Rattle.npr_base.specs.EnumFamily.{rewritten}
use Rattle.npr_base.specs.Family.{Writing}
use Rattle.npr_base.specs.Tables.{EnumTable, table_of, row, others, ◌or◌, exactly, leading, le64, value, seen, refl, Reading, Family}
use Rattle.npr_base.specs.Tables.{Meanings, writing_of, attributes_of, family_of_table}
use Rattle.npr_tc_values.specs.StatsBasic.{stats_basic}
use Rattle.npr_tc_values.specs.StatsQueue.{stats_queue}
use Rattle.npr_tc_values.specs.StatsRateEst.{stats_rate_est}
use Rattle.npr_tc_values.specs.StatsRateEst64.{stats_rate_est64}
use Rattle.npr_tc_values.specs.Xstats.{xstats, xstats_of}
use Rattle.npr_tc_values.specs.contracts.stats2.TcStats2.{enum}
use Rattle.npr_tc_values.specs.declared.form.TcForm.{TcForm}
use Rattle.npr_tc_values.specs.declared.stats2.TcStats2.{TcStats2}

-- the table, in the order of the variants
abbrev pub table : TcForm → EnumTable enum
table form =
    table_of enum (
    row AtStats2 1 (leading stats_basic) (value TcStats2.Basic)  -- TCA_STATS_BASIC
    or row AtStats2 2 (leading stats_rate_est) (value TcStats2.RateEst)  -- TCA_STATS_RATE_EST
    or row AtStats2 3 (leading stats_queue) (value TcStats2.Queue)  -- TCA_STATS_QUEUE
    or row AtStats2 4 (xstats form) (seen xstats_of TcStats2.App)  -- TCA_STATS_APP
    or row AtStats2 5 (leading stats_rate_est64) (value TcStats2.RateEst64)  -- TCA_STATS_RATE_EST64
    or row AtStats2 7 (leading stats_basic) (value TcStats2.BasicHw)  -- TCA_STATS_BASIC_HW
    or row AtStats2 8 (exactly le64) (value TcStats2.Pkt64)  -- TCA_STATS_PKT64
    or others (value TcStats2.Other)) refl refl

-- where nothing governs
abbrev pub plain : EnumTable enum
plain = table TcForm.Kept

-- what an attribute is, without where it lies in memory
abbrev pub Meaning : Type 0
Meaning = Meanings plain

-- how each is written, whatever governs
abbrev pub writing : Writing Meaning
writing = writing_of plain

pub shapes : (form : TcForm) (m : Meaning) → writing.shape m ≡ (writing_of (table form)).shape m
shapes form (inl x) = refl
shapes form (inr (inl x)) = refl
shapes form (inr (inr (inl x))) = refl
shapes form (inr (inr (inr (inl x)))) = refl
shapes form (inr (inr (inr (inr m)))) = refl

pub members : (form : TcForm) (m : Meaning) → writing.members m ≡ (writing_of (table form)).members m
members form (inl x) = refl
members form (inr (inl x)) = refl
members form (inr (inr (inl x))) = refl
members form (inr (inr (inr (inl x)))) = refl
members form (inr (inr (inr (inr m)))) = refl

-- the family, under what governs the message
unfoldable pub attributes : TcForm → Reading writing
attributes form = rewritten (attributes_of (table form)) writing (shapes form) (members form)

abbrev pub family : Family TcStats2 TcForm
family = family_of_table plain attributes
