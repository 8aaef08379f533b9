-- What the kernel remembers of a route (linux/rtnetlink.h, struct rta_cacheinfo): 8 numbers of 4 bytes.
use Rattle.std.proofs.Common.{refl}
use Rattle.npr_base.specs.Fields.{le_four, ◌fills◌, ◌then◌, last, structure}
use Rattle.npr_base.specs.Layout.{Layout}
use Rattle.npr_route_values.specs.contracts.cache_info.RouteCacheInfo.{struct}
use Rattle.npr_route_values.specs.declared.cache_info.RouteCacheInfo.{RouteCacheInfo}

-- in this order, little endian
abbrev pub route_cache_info : Layout RouteCacheInfo
route_cache_info =
    structure struct
    (RouteCacheInfo.clntref fills le_four then RouteCacheInfo.last_use fills le_four then RouteCacheInfo.expires fills le_four
    then RouteCacheInfo.error fills le_four then RouteCacheInfo.used fills le_four then RouteCacheInfo.id fills le_four
    then RouteCacheInfo.ts fills le_four then last (RouteCacheInfo.ts_age fills le_four)) refl (λ v. tt)
