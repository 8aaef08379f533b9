-- The resources of a device (linux/if_link.h, struct rtnl_link_ifmap): thirty-two bytes, four of which are padding.
use Rattle.std.proofs.Common.{refl}
use Rattle.npr_base.specs.Fields.{one_byte, le_two, le_eight, unused, ◌fills◌, ◌then◌, last, structure}
use Rattle.npr_base.specs.Layout.{Layout}
use Rattle.npr_base.specs.MoreFields.{◌behind◌}
use Rattle.npr_link.specs.contracts.map.Map.{struct}
use Rattle.npr_link.specs.declared.map.Map.{Map}

-- in this order, little endian; the padding at the end is not looked at, and written 0
abbrev pub device_map : Layout Map
device_map =
    structure struct
    (Map.memory_start fills le_eight then Map.memory_end fills le_eight then Map.base_address fills le_eight then Map.irq fills le_two
    then Map.dma fills one_byte then last (Map.port fills one_byte behind unused behind unused behind unused behind unused)) refl (λ v. tt)
