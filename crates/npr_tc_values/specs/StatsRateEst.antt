-- An estimated rate (linux/gen_stats.h, struct gnet_stats_rate_est): two numbers of four bytes.
use Rattle.std.proofs.Common.{refl}
use Rattle.npr_base.specs.Fields.{le_four, ◌fills◌, ◌then◌, last, structure}
use Rattle.npr_base.specs.Layout.{Layout}
use Rattle.npr_tc_values.specs.contracts.stats_rate_est.TcStatsRateEst.{struct}
use Rattle.npr_tc_values.specs.declared.stats_rate_est.TcStatsRateEst.{TcStatsRateEst}

-- in this order, little endian
abbrev pub stats_rate_est : Layout TcStatsRateEst
stats_rate_est =
    structure struct
    (TcStatsRateEst.bps fills le_four then last (TcStatsRateEst.pps fills le_four)) refl (λ v. tt)
