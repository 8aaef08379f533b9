-- How a table of neighbours is made (linux/neighbour.h, struct ndt_config): two numbers of two bytes, and seven of four.
use Rattle.std.proofs.Common.{refl}
use Rattle.npr_base.specs.Fields.{le_two, le_four, ◌fills◌, ◌then◌, last, structure}
use Rattle.npr_base.specs.Layout.{Layout}
use Rattle.npr_neighbour.specs.contracts.neighbour_table_config.NeighbourTableConfig.{struct}
use Rattle.npr_neighbour.specs.declared.neighbour_table_config.NeighbourTableConfig.{NeighbourTableConfig}

-- in this order, little endian
abbrev pub table_config : Layout NeighbourTableConfig
table_config =
    structure struct
    (NeighbourTableConfig.key_len fills le_two then NeighbourTableConfig.entry_size fills le_two
    then NeighbourTableConfig.entries fills le_four then NeighbourTableConfig.last_flush fills le_four
    then NeighbourTableConfig.last_rand fills le_four then NeighbourTableConfig.hash_rand fills le_four
    then NeighbourTableConfig.hash_mask fills le_four then NeighbourTableConfig.hash_chain_gc fills le_four
    then last (NeighbourTableConfig.proxy_qlen fills le_four)) refl (λ v. tt)
