-- What went by a VLAN of a bridge (linux/if_bridge.h, struct bridge_vlan_xstats): four numbers of eight bytes, two of two, and four
-- bytes that are not looked at.
use Rattle.std.proofs.Common.{refl}
use Rattle.npr_base.specs.Fields.{le_two, le_eight, unused, ◌fills◌, ◌then◌, last, structure}
use Rattle.npr_base.specs.Layout.{Layout}
use Rattle.npr_base.specs.MoreFields.{◌behind◌}
use Rattle.npr_stats.specs.contracts.bridge_vlan_xstats.BridgeVlanXstats.{struct}
use Rattle.npr_stats.specs.declared.bridge_vlan_xstats.BridgeVlanXstats.{BridgeVlanXstats}

-- in this order, little endian
abbrev pub bridge_vlan_xstats : Layout BridgeVlanXstats
bridge_vlan_xstats =
    structure struct
    (BridgeVlanXstats.rx_bytes fills le_eight then BridgeVlanXstats.rx_packets fills le_eight then BridgeVlanXstats.tx_bytes fills le_eight
    then BridgeVlanXstats.tx_packets fills le_eight then BridgeVlanXstats.vid fills le_two
    then last (BridgeVlanXstats.flags fills le_two behind unused behind unused behind unused behind unused)) refl (λ v. tt)
