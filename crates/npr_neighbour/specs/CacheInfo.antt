-- What the kernel remembers of a neighbour: four numbers of four bytes (linux/neighbour.h, struct nda_cacheinfo).
use Rattle.std.proofs.Common.{refl}
use Rattle.npr_base.specs.Fields.{le_four, ◌fills◌, ◌then◌, last, structure}
use Rattle.npr_base.specs.Layout.{Layout}
use Rattle.npr_neighbour.specs.contracts.cache_info.NeighbourCacheInfo.{struct}
use Rattle.npr_neighbour.specs.declared.cache_info.NeighbourCacheInfo.{NeighbourCacheInfo}

-- in this order, little endian
abbrev pub cache_info : Layout NeighbourCacheInfo
cache_info =
    structure struct
    (NeighbourCacheInfo.confirmed fills le_four then NeighbourCacheInfo.used fills le_four then NeighbourCacheInfo.updated fills le_four
    then last (NeighbourCacheInfo.refcnt fills le_four)) refl (λ v. tt)
