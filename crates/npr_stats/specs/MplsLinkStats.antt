-- What MPLS counted on a link (linux/mpls.h, struct mpls_link_stats): nine numbers of eight bytes.
use Rattle.std.proofs.Common.{refl}
use Rattle.npr_base.specs.Fields.{le_eight, ◌fills◌, ◌then◌, last, structure}
use Rattle.npr_base.specs.Layout.{Layout}
use Rattle.npr_stats.specs.contracts.mpls_link_stats.MplsLinkStats.{struct}
use Rattle.npr_stats.specs.declared.mpls_link_stats.MplsLinkStats.{MplsLinkStats}

-- in this order, little endian
abbrev pub mpls_link_stats : Layout MplsLinkStats
mpls_link_stats =
    structure struct
    (MplsLinkStats.rx_packets fills le_eight then MplsLinkStats.tx_packets fills le_eight then MplsLinkStats.rx_bytes fills le_eight
    then MplsLinkStats.tx_bytes fills le_eight then MplsLinkStats.rx_errors fills le_eight then MplsLinkStats.tx_errors fills le_eight
    then MplsLinkStats.rx_dropped fills le_eight then MplsLinkStats.tx_dropped fills le_eight
    then last (MplsLinkStats.rx_noroute fills le_eight)) refl (λ v. tt)
