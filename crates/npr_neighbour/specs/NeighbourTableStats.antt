-- What a table of neighbours has counted (linux/neighbour.h, struct ndt_stats): eleven numbers of eight bytes.
use Rattle.std.proofs.Common.{refl}
use Rattle.npr_base.specs.Fields.{le_eight, ◌fills◌, ◌then◌, last, structure}
use Rattle.npr_base.specs.Layout.{Layout}
use Rattle.npr_neighbour.specs.contracts.neighbour_table_stats.NeighbourTableStats.{struct}
use Rattle.npr_neighbour.specs.declared.neighbour_table_stats.NeighbourTableStats.{NeighbourTableStats}

-- in this order, little endian
abbrev pub table_stats : Layout NeighbourTableStats
table_stats =
    structure struct
    (NeighbourTableStats.allocs fills le_eight then NeighbourTableStats.destroys fills le_eight
    then NeighbourTableStats.hash_grows fills le_eight then NeighbourTableStats.res_failed fills le_eight
    then NeighbourTableStats.lookups fills le_eight then NeighbourTableStats.hits fills le_eight
    then NeighbourTableStats.multicast_probes_received fills le_eight then NeighbourTableStats.unicast_probes_received fills le_eight
    then NeighbourTableStats.periodic_gc_runs fills le_eight then NeighbourTableStats.forced_gc_runs fills le_eight
    then last (NeighbourTableStats.table_fulls fills le_eight)) refl (λ v. tt)
