-- How long an address is preferred and valid: four numbers of four bytes (linux/if_addr.h, struct ifa_cacheinfo).
use Rattle.std.proofs.Common.{refl}
use Rattle.npr_base.specs.Fields.{le_four, ◌fills◌, ◌then◌, last, structure}
use Rattle.npr_base.specs.Layout.{Layout}
use Rattle.npr_address.specs.contracts.cache_info.CacheInfo.{struct}
use Rattle.npr_address.specs.declared.cache_info.CacheInfo.{CacheInfo}

-- in this order, little endian
abbrev pub cache_info : Layout CacheInfo
cache_info =
    structure struct
    (CacheInfo.ifa_preferred fills le_four then CacheInfo.ifa_valid fills le_four then CacheInfo.cstamp fills le_four
    then last (CacheInfo.tstamp fills le_four)) refl (λ v. tt)
