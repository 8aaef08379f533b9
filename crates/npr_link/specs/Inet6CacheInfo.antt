-- Times of the neighbours of a link (linux/if_link.h, struct ifla_cacheinfo): four signed numbers of four bytes.
use Rattle.std.proofs.Common.{refl}
use Rattle.npr_base.specs.Fields.{◌fills◌, ◌then◌, last, structure}
use Rattle.npr_base.specs.Layout.{Layout}
use Rattle.npr_base.specs.MoreFields.{signed_four}
use Rattle.npr_link.specs.contracts.inet6_cache_info.Inet6CacheInfo.{struct}
use Rattle.npr_link.specs.declared.inet6_cache_info.Inet6CacheInfo.{Inet6CacheInfo}

-- in this order, little endian
abbrev pub inet6_cache_info : Layout Inet6CacheInfo
inet6_cache_info =
    structure struct
    (Inet6CacheInfo.max_reasm_len fills signed_four then Inet6CacheInfo.tstamp fills signed_four then Inet6CacheInfo.reachable_time fills signed_four
    then last (Inet6CacheInfo.retrans_time fills signed_four)) refl (λ v. tt)
