-- What the spanning tree protocol counted at a port of a bridge (linux/if_bridge.h, struct bridge_stp_xstats): six numbers of eight bytes.
use Rattle.std.proofs.Common.{refl}
use Rattle.npr_base.specs.Fields.{le_eight, ◌fills◌, ◌then◌, last, structure}
use Rattle.npr_base.specs.Layout.{Layout}
use Rattle.npr_stats.specs.contracts.bridge_stp_xstats.BridgeStpXstats.{struct}
use Rattle.npr_stats.specs.declared.bridge_stp_xstats.BridgeStpXstats.{BridgeStpXstats}

-- in this order, little endian
abbrev pub bridge_stp_xstats : Layout BridgeStpXstats
bridge_stp_xstats =
    structure struct
    (BridgeStpXstats.transition_blk fills le_eight then BridgeStpXstats.transition_fwd fills le_eight then BridgeStpXstats.rx_bpdu fills le_eight
    then BridgeStpXstats.tx_bpdu fills le_eight then BridgeStpXstats.rx_tcn fills le_eight then last (BridgeStpXstats.tx_tcn fills le_eight)) refl (λ v. tt)
