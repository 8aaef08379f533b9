-- The data of a TUN device (linux/if_link.h, IFLA_TUN_*), by the table.
use Rattle.npr_base.specs.declared.attribute_set.AttributeSet.TheVariants.{InfoTun as AtTun}
use Rattle.npr_base.specs.Tables.{EnumTable, table_of, row, others, ◌or◌, boolean, exactly, le32, value, refl, Reading, Family, writing_of, attributes_of}
use Rattle.npr_base.specs.Tables.{family_of_table}
use Rattle.npr_link_devices.specs.TunType.{tun_type}
use Rattle.npr_link_devices.specs.contracts.tun.InfoTun.{enum}
use Rattle.npr_link_devices.specs.declared.tun.InfoTun.{InfoTun}

-- the table, in the order of the variants
abbrev pub table : EnumTable enum
table =
    table_of enum (
    row AtTun 1 (exactly le32) (value InfoTun.Owner)  -- IFLA_TUN_OWNER
    or row AtTun 2 (exactly le32) (value InfoTun.Group)  -- IFLA_TUN_GROUP
    or row AtTun 3 (exactly tun_type) (value InfoTun.Type)  -- IFLA_TUN_TYPE
    or row AtTun 4 (exactly boolean) (value InfoTun.Pi)  -- IFLA_TUN_PI
    or row AtTun 5 (exactly boolean) (value InfoTun.VnetHdr)  -- IFLA_TUN_VNET_HDR
    or row AtTun 6 (exactly boolean) (value InfoTun.Persist)  -- IFLA_TUN_PERSIST
    or row AtTun 7 (exactly boolean) (value InfoTun.MultiQueue)  -- IFLA_TUN_MULTI_QUEUE
    or row AtTun 8 (exactly le32) (value InfoTun.NumQueues)  -- IFLA_TUN_NUM_QUEUES
    or row AtTun 9 (exactly le32) (value InfoTun.NumDisabledQueues)  -- IFLA_TUN_NUM_DISABLED_QUEUES
    or others (value InfoTun.Other)) refl refl

-- the family
unfoldable pub attributes : Reading (writing_of table)
attributes = attributes_of table

abbrev pub family : Family InfoTun (Unit {0})
family = family_of_table table (λ c. attributes)
