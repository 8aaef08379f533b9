-- How long a prefix is preferred and valid (linux/rtnetlink.h, struct prefix_cacheinfo): two numbers of four bytes.
use Rattle.std.proofs.Common.{refl}
use Rattle.npr_base.specs.Fields.{le_four, ◌fills◌, ◌then◌, last, structure}
use Rattle.npr_base.specs.Layout.{Layout}
use Rattle.npr_address.specs.contracts.prefix_cache_info.CacheInfo.{struct}
use Rattle.npr_address.specs.declared.prefix_cache_info.CacheInfo.{CacheInfo}

-- in this order, little endian
abbrev pub cache_info : Layout CacheInfo
cache_info =
    structure struct
    (CacheInfo.preferred_time fills le_four then last (CacheInfo.valid_time fills le_four)) refl (λ v. tt)
