-- What `==` answers of handles, rates and counters: whether two values are equal, or mean the same.
use Rattle.std.specs.Prelude.{ℕ}
use Rattle.std.specs.Cmp.{signed_Decides, unsigned_Decides}
use Rattle.std.proofs.Common.{refl, rules, map, ap}
use Rattle.npr_base.specs.EnumTable.{◌also◌}
use Rattle.npr_base.specs.Equality.{IsEquality, IsEqualityOf}
use Rattle.npr_base.specs.Tables.{table_decides}
use Rattle.npr_base.proofs.EqualityLaws.{one_equality}
use Rattle.npr_base.proofs.FieldEquality.{one, number, kept, list, bytes}
use Rattle.npr_base.proofs.MeaningLaws.{enum_meaning, one_meaning, items_equality, items_meaning}
use Rattle.npr_base.proofs.StructLaws.{◌beside◌, struct_equality, and_decides, decides_as}
use Rattle.npr_tc_values.specs.CakeStat as OfCakeStat
use Rattle.npr_tc_values.specs.FqCodelXstats as X
use Rattle.npr_tc_values.specs.Stats2 as OfStats2
use Rattle.npr_tc_values.specs.Xstats as K
use Rattle.npr_tc_values.specs.contracts.bitfield.TcBitfieldPartialEq.TheImpl as BitfieldEq
use Rattle.npr_tc_values.specs.contracts.estimator.TcEstimator.{struct as estimator_struct}
use Rattle.npr_tc_values.specs.contracts.estimator.TcEstimatorPartialEq.TheImpl as EstimatorEq
use Rattle.npr_tc_values.specs.contracts.form.TcFormPartialEq.TheImpl as FormEq
use Rattle.npr_tc_values.specs.contracts.fq_codel_cl_stats.TcFqCodelClStatsPartialEq.TheImpl as ClStatsEq
use Rattle.npr_tc_values.specs.contracts.fq_codel_qd_stats.TcFqCodelQdStatsPartialEq.TheImpl as QdStatsEq
use Rattle.npr_tc_values.specs.contracts.fq_codel_xstats.TcFqCodelXstats.{enum as fq_codel_xstats_enum}
use Rattle.npr_tc_values.specs.contracts.fq_codel_xstats.TcFqCodelXstatsPartialEq.TheImpl as FqCodelXstatsEq
use Rattle.npr_tc_values.specs.contracts.handle.TcHandlePartialEq.TheImpl as HandleEq
use Rattle.npr_tc_values.specs.contracts.htb_xstats.TcHtbXstatsPartialEq.TheImpl as HtbXstatsEq
use Rattle.npr_tc_values.specs.contracts.stats.TcStats.{struct as stats_struct}
use Rattle.npr_tc_values.specs.contracts.stats.TcStatsPartialEq.TheImpl as StatsEq
use Rattle.npr_tc_values.specs.contracts.stats2.TcStats2PartialEq.TheImpl as Stats2Eq
use Rattle.npr_tc_values.specs.contracts.stats_basic.TcStatsBasicPartialEq.TheImpl as BasicEq
use Rattle.npr_tc_values.specs.contracts.stats_queue.TcStatsQueue.{struct as queue_struct}
use Rattle.npr_tc_values.specs.contracts.stats_queue.TcStatsQueuePartialEq.TheImpl as QueueEq
use Rattle.npr_tc_values.specs.contracts.stats_rate_est.TcStatsRateEstPartialEq.TheImpl as RateEstEq
use Rattle.npr_tc_values.specs.contracts.stats_rate_est64.TcStatsRateEst64PartialEq.TheImpl as RateEst64Eq
use Rattle.npr_tc_values.specs.contracts.xstats.TcXstats.{enum as xstats_enum}
use Rattle.npr_tc_values.specs.contracts.xstats.TcXstatsPartialEq.TheImpl as XstatsEq
use Rattle.npr_tc_values.specs.contracts.rate_spec.TcRateSpec.{struct as rate_spec_struct}
use Rattle.npr_tc_values.specs.contracts.rate_spec.TcRateSpecPartialEq.TheImpl as RateSpecEq
use Rattle.npr_tc_values.specs.CakeTin as OfCakeTin
use Rattle.npr_tc_values.specs.CakeTinStat as OfCakeTinStat
use Rattle.npr_tc_values.specs.contracts.cake_stat.TcCakeStatPartialEq.TheImpl as CakeStatEq
use Rattle.npr_tc_values.specs.contracts.cake_tin.TcCakeTinPartialEq.TheImpl as CakeTinEq
use Rattle.npr_tc_values.specs.contracts.cake_tin_stat.TcCakeTinStatPartialEq.TheImpl as CakeTinStatEq
use Rattle.npr_tc_values.specs.contracts.fq_qd_stats.TcFqQdStatsPartialEq.TheImpl as FqQdStatsEq
use Rattle.npr_tc_values.specs.contracts.netem_xstats.TcNetemXstatsPartialEq.TheImpl as NetemXstatsEq
use Rattle.npr_tc_values.specs.contracts.red_xstats.TcRedXstatsPartialEq.TheImpl as RedXstatsEq
use Rattle.npr_tc_values.specs.contracts.sfq_xstats.TcSfqXstatsPartialEq.TheImpl as SfqXstatsEq

-- ---- structures

pub handle_equality : IsEquality HandleEq.ghosts.eq
handle_equality = search rules

pub bitfield_equality : IsEquality BitfieldEq.ghosts.eq
bitfield_equality = search rules

pub form_equality : IsEquality FormEq.ghosts.eq
form_equality = search rules

pub stats_equality : IsEquality StatsEq.ghosts.eq
stats_equality =
    struct_equality stats_struct (λ v. tt) (λ d. refl)
    (unsigned_Decides beside unsigned_Decides beside unsigned_Decides beside unsigned_Decides beside unsigned_Decides beside unsigned_Decides
    beside unsigned_Decides beside one_equality unsigned_Decides)

pub stats_basic_equality : IsEquality BasicEq.ghosts.eq
stats_basic_equality = search rules

pub stats_queue_equality : IsEquality QueueEq.ghosts.eq
stats_queue_equality =
    struct_equality queue_struct (λ v. tt) (λ d. refl)
    (unsigned_Decides beside unsigned_Decides beside unsigned_Decides beside unsigned_Decides beside one_equality unsigned_Decides)

pub stats_rate_est_equality : IsEquality RateEstEq.ghosts.eq
stats_rate_est_equality = search rules

pub stats_rate_est64_equality : IsEquality RateEst64Eq.ghosts.eq
stats_rate_est64_equality = search rules

pub estimator_equality : IsEquality EstimatorEq.ghosts.eq
estimator_equality = struct_equality estimator_struct (λ v. tt) (λ d. refl) (signed_Decides beside one_equality unsigned_Decides)

pub rate_spec_equality : IsEquality RateSpecEq.ghosts.eq
rate_spec_equality =
    struct_equality rate_spec_struct (λ v. tt) (λ d. refl)
    (unsigned_Decides beside unsigned_Decides beside unsigned_Decides beside signed_Decides beside unsigned_Decides
    beside one_equality unsigned_Decides)

-- ---- bytes

pub qd_stats_equality : IsEqualityOf (λ x. x.bytes.items) QdStatsEq.ghosts.eq
qd_stats_equality a b = items_equality unsigned_Decides a.bytes b.bytes

pub cl_stats_equality : IsEqualityOf (λ x. x.bytes.items) ClStatsEq.ghosts.eq
cl_stats_equality a b = items_equality unsigned_Decides a.bytes b.bytes

pub htb_xstats_equality : IsEqualityOf (λ x. x.bytes.items) HtbXstatsEq.ghosts.eq
htb_xstats_equality a b = items_equality unsigned_Decides a.bytes b.bytes

pub fq_qd_stats_equality : IsEqualityOf (λ x. x.bytes.items) FqQdStatsEq.ghosts.eq
fq_qd_stats_equality a b = items_equality unsigned_Decides a.bytes b.bytes

pub red_xstats_equality : IsEqualityOf (λ x. x.bytes.items) RedXstatsEq.ghosts.eq
red_xstats_equality a b = items_equality unsigned_Decides a.bytes b.bytes

pub netem_xstats_equality : IsEqualityOf (λ x. x.bytes.items) NetemXstatsEq.ghosts.eq
netem_xstats_equality a b = items_equality unsigned_Decides a.bytes b.bytes

pub sfq_xstats_equality : IsEqualityOf (λ x. x.bytes.items) SfqXstatsEq.ghosts.eq
sfq_xstats_equality a b = items_equality unsigned_Decides a.bytes b.bytes

-- ---- sets, and what a kind governs

pub cake_tin_stat_equality : IsEqualityOf OfCakeTinStat.family.meaning CakeTinStatEq.ghosts.eq
cake_tin_stat_equality =
    table_decides OfCakeTinStat.table _
    (number also number also number also number also number also number also number also number also number also number also number also
    number also number also number also number also number also number also number also number also number also number also number also
    number also number also kept also tt)

pub cake_tin_equality : IsEqualityOf OfCakeTin.family.meaning CakeTinEq.ghosts.eq
cake_tin_equality a b =
    decides_as (λ p. λ i. record { number = p.0 i; value = p.1 i })
    (λ e. (ap (λ (m : OfCakeTin.Meaning). m.number) e, ap (λ (m : OfCakeTin.Meaning). m.value) e))
    (and_decides (unsigned_Decides a.tab b.tab) (items_meaning OfCakeTinStat.family.meaning cake_tin_stat_equality a.stats b.stats))

pub cake_stat_equality : IsEqualityOf OfCakeStat.family.meaning CakeStatEq.ghosts.eq
cake_stat_equality =
    table_decides OfCakeStat.table _
    (number also number also number also number also number also number also number also number also list cake_tin_equality also
    one signed_Decides also number also number also one signed_Decides also number also one signed_Decides also number also kept also tt)

-- the places of the variants
fq_codel_order : X.FqCodelXstats → ℕ
fq_codel_order (X.qdisc bytes) = 0
fq_codel_order (X.class bytes) = 1
fq_codel_order (X.other bytes) = 2

pub fq_codel_xstats_equality : IsEqualityOf X.fq_codel_xstats_of FqCodelXstatsEq.ghosts.eq
unfolding fq_codel_order
fq_codel_xstats_equality =
    enum_meaning fq_codel_order fq_codel_xstats_enum X.fq_codel_xstats_of _ (λ t.
    (λ x. refl, one_meaning (λ x. x.bytes.items) X.qdisc qd_stats_equality (λ p q e. cc)) also
    (λ x. refl, one_meaning (λ x. x.bytes.items) X.class cl_stats_equality (λ p q e. cc)) also
    (λ x. refl, one_meaning (λ v. v.items) X.other (items_equality unsigned_Decides) (λ p q e. cc)) also tt)

xstats_order : K.Xstats → ℕ
xstats_order (K.fq_codel x) = 0
xstats_order (K.htb bytes) = 1
xstats_order (K.fq bytes) = 2
xstats_order (K.red bytes) = 3
xstats_order (K.netem bytes) = 4
xstats_order (K.sfq bytes) = 5
xstats_order (K.cake xs) = 6
xstats_order (K.other bytes) = 7

pub xstats_equality : IsEqualityOf K.xstats_of XstatsEq.ghosts.eq
unfolding xstats_order
xstats_equality =
    enum_meaning xstats_order xstats_enum K.xstats_of _ (λ t.
    (λ x. refl, one_meaning X.fq_codel_xstats_of K.fq_codel fq_codel_xstats_equality (λ p q e. cc)) also
    (λ x. refl, one_meaning (λ h. h.bytes.items) K.htb htb_xstats_equality (λ p q e. cc)) also
    (λ x. refl, one_meaning (λ h. h.bytes.items) K.fq fq_qd_stats_equality (λ p q e. cc)) also
    (λ x. refl, one_meaning (λ h. h.bytes.items) K.red red_xstats_equality (λ p q e. cc)) also
    (λ x. refl, one_meaning (λ h. h.bytes.items) K.netem netem_xstats_equality (λ p q e. cc)) also
    (λ x. refl, one_meaning (λ h. h.bytes.items) K.sfq sfq_xstats_equality (λ p q e. cc)) also (
      λ x. refl,
      one_meaning (λ v. map OfCakeStat.family.meaning v.items) K.cake (items_meaning OfCakeStat.family.meaning cake_stat_equality)
          (λ p q e. cc),
    ) also
    (λ x. refl, one_meaning (λ v. v.items) K.other (items_equality unsigned_Decides) (λ p q e. cc)) also tt)

pub stats2_equality : IsEqualityOf OfStats2.family.meaning Stats2Eq.ghosts.eq
stats2_equality =
    table_decides OfStats2.plain _
    (one stats_basic_equality also one stats_rate_est_equality also one stats_queue_equality also one xstats_equality also
    one stats_rate_est64_equality also one stats_basic_equality also number also kept also tt)
