-- An estimated rate (linux/gen_stats.h, struct gnet_stats_rate_est64): two numbers of eight bytes.
use Rattle.std.proofs.Common.{refl}
use Rattle.npr_base.specs.Fields.{le_eight, ◌fills◌, ◌then◌, last, structure}
use Rattle.npr_base.specs.Layout.{Layout}
use Rattle.npr_tc_values.specs.contracts.stats_rate_est64.TcStatsRateEst64.{struct}
use Rattle.npr_tc_values.specs.declared.stats_rate_est64.TcStatsRateEst64.{TcStatsRateEst64}

-- in this order, little endian
abbrev pub stats_rate_est64 : Layout TcStatsRateEst64
stats_rate_est64 =
    structure struct
    (TcStatsRateEst64.bps fills le_eight then last (TcStatsRateEst64.pps fills le_eight)) refl (λ v. tt)
