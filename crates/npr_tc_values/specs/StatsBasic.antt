-- How much went by (linux/gen_stats.h, struct gnet_stats_basic): two numbers, and four bytes that are not looked at.
use Rattle.std.proofs.Common.{refl}
use Rattle.npr_base.specs.Fields.{le_four, le_eight, unused, ◌fills◌, ◌then◌, last, structure}
use Rattle.npr_base.specs.Layout.{Layout}
use Rattle.npr_base.specs.MoreFields.{◌behind◌}
use Rattle.npr_tc_values.specs.contracts.stats_basic.TcStatsBasic.{struct}
use Rattle.npr_tc_values.specs.declared.stats_basic.TcStatsBasic.{TcStatsBasic}

-- in this order, little endian
abbrev pub stats_basic : Layout TcStatsBasic
stats_basic =
    structure struct
    (TcStatsBasic.bytes fills le_eight then last (TcStatsBasic.packets fills le_four behind unused behind unused behind unused behind unused)) refl (λ v. tt)
