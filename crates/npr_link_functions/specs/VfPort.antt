-- What a link says of a port (linux/if_link.h, IFLA_PORT_*), by the table.
use Rattle.npr_base.specs.declared.attribute_set.AttributeSet.TheVariants.{VfPort as AtVfPort}
use Rattle.npr_base.specs.Tables.{EnumTable, table_of, row, others, ◌or◌, byte, exactly, le16, le32, name, octets, text, value}
use Rattle.npr_base.specs.Tables.{refl, Reading, Family, writing_of, attributes_of, family_of_table}
use Rattle.npr_link_functions.specs.contracts.vf_port.VfPort.{enum}
use Rattle.npr_link_functions.specs.declared.vf_port.VfPort.{VfPort}

-- the table, in the order of the variants
abbrev pub table : EnumTable enum
table =
    table_of enum (
    row AtVfPort 1 (exactly le32) (value VfPort.Vf)  -- IFLA_PORT_VF
    or row AtVfPort 2 name (text VfPort.Profile)  -- IFLA_PORT_PROFILE
    or row AtVfPort 4 (exactly (octets 16)) (value VfPort.InstanceUuid)  -- IFLA_PORT_INSTANCE_UUID
    or row AtVfPort 5 (exactly (octets 16)) (value VfPort.HostUuid)  -- IFLA_PORT_HOST_UUID
    or row AtVfPort 6 (exactly byte) (value VfPort.Request)  -- IFLA_PORT_REQUEST
    or row AtVfPort 7 (exactly le16) (value VfPort.Response)  -- IFLA_PORT_RESPONSE
    or others (value VfPort.Other)) refl refl

-- the family
unfoldable pub attributes : Reading (writing_of table)
attributes = attributes_of table

abbrev pub family : Family VfPort (Unit {0})
family = family_of_table table (λ c. attributes)
