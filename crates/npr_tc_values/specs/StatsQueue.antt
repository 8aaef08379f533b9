-- What waits in a queue (linux/gen_stats.h, struct gnet_stats_queue): five numbers.
use Rattle.std.proofs.Common.{refl}
use Rattle.npr_base.specs.Fields.{le_four, ◌fills◌, ◌then◌, last, structure}
use Rattle.npr_base.specs.Layout.{Layout}
use Rattle.npr_tc_values.specs.contracts.stats_queue.TcStatsQueue.{struct}
use Rattle.npr_tc_values.specs.declared.stats_queue.TcStatsQueue.{TcStatsQueue}

-- in this order, little endian
abbrev pub stats_queue : Layout TcStatsQueue
stats_queue =
    structure struct
    (TcStatsQueue.qlen fills le_four then TcStatsQueue.backlog fills le_four then TcStatsQueue.drops fills le_four
    then TcStatsQueue.requeues fills le_four then last (TcStatsQueue.overlimits fills le_four)) refl (λ v. tt)
