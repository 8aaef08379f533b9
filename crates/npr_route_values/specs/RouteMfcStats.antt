-- How much a multicast route forwarded (linux/rtnetlink.h, struct rta_mfc_stats): 3 numbers of 8 bytes.
use Rattle.std.proofs.Common.{refl}
use Rattle.npr_base.specs.Fields.{le_eight, ◌fills◌, ◌then◌, last, structure}
use Rattle.npr_base.specs.Layout.{Layout}
use Rattle.npr_route_values.specs.contracts.mfc_stats.RouteMfcStats.{struct}
use Rattle.npr_route_values.specs.declared.mfc_stats.RouteMfcStats.{RouteMfcStats}

-- in this order, little endian
abbrev pub route_mfc_stats : Layout RouteMfcStats
route_mfc_stats =
    structure struct
    (RouteMfcStats.packets fills le_eight then RouteMfcStats.bytes fills le_eight then last (RouteMfcStats.wrong_if fills le_eight)) refl (λ v. tt)
