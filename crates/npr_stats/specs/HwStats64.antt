-- What a device counted by itself (linux/if_link.h, struct rtnl_hw_stats64): nine numbers of eight bytes.
use Rattle.std.proofs.Common.{refl}
use Rattle.npr_base.specs.Fields.{le_eight, ◌fills◌, ◌then◌, last, structure}
use Rattle.npr_base.specs.Layout.{Layout}
use Rattle.npr_stats.specs.contracts.hw_stats64.HwStats64.{struct}
use Rattle.npr_stats.specs.declared.hw_stats64.HwStats64.{HwStats64}

-- in this order, little endian
abbrev pub hw_stats64 : Layout HwStats64
hw_stats64 =
    structure struct
    (HwStats64.rx_packets fills le_eight then HwStats64.tx_packets fills le_eight then HwStats64.rx_bytes fills le_eight
    then HwStats64.tx_bytes fills le_eight then HwStats64.rx_errors fills le_eight then HwStats64.tx_errors fills le_eight
    then HwStats64.rx_dropped fills le_eight then HwStats64.tx_dropped fills le_eight then last (HwStats64.multicast fills le_eight)) refl (λ v. tt)
