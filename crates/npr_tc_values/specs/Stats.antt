-- What went by a queueing discipline or a class (linux/pkt_sched.h, struct tc_stats): eight numbers, and four bytes that are not looked at.
use Rattle.std.proofs.Common.{refl}
use Rattle.npr_base.specs.Fields.{le_four, le_eight, unused, ◌fills◌, ◌then◌, last, structure}
use Rattle.npr_base.specs.Layout.{Layout}
use Rattle.npr_base.specs.MoreFields.{◌behind◌}
use Rattle.npr_tc_values.specs.contracts.stats.TcStats.{struct}
use Rattle.npr_tc_values.specs.declared.stats.TcStats.{TcStats}

-- in this order, little endian
abbrev pub stats : Layout TcStats
stats =
    structure struct
    (TcStats.bytes fills le_eight then TcStats.packets fills le_four then TcStats.drops fills le_four then TcStats.overlimits fills le_four
    then TcStats.bps fills le_four then TcStats.pps fills le_four then TcStats.qlen fills le_four
    then last (TcStats.backlog fills le_four behind unused behind unused behind unused behind unused)) refl (λ v. tt)
