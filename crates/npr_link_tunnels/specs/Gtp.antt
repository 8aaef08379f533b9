-- The data of a tunnel of GTP (linux/if_link.h, IFLA_GTP_*), by the table.
use Rattle.npr_base.specs.declared.attribute_set.AttributeSet.TheVariants.{InfoGtp as AtInfoGtp}
use Rattle.npr_base.specs.Tables.{EnumTable, table_of, row, others, ◌or◌, boolean, byte, exactly, le32, octets16, octets4, value}
use Rattle.npr_base.specs.Tables.{refl, Reading, Family, writing_of, attributes_of, family_of_table}
use Rattle.npr_link_tunnels.specs.contracts.gtp.InfoGtp.{enum}
use Rattle.npr_link_tunnels.specs.declared.gtp.InfoGtp.{InfoGtp}

-- the table, in the order of the variants
abbrev pub table : EnumTable enum
table =
    table_of enum (
    row AtInfoGtp 1 (exactly le32) (value InfoGtp.Fd0)  -- IFLA_GTP_FD0
    or row AtInfoGtp 2 (exactly le32) (value InfoGtp.Fd1)  -- IFLA_GTP_FD1
    or row AtInfoGtp 3 (exactly le32) (value InfoGtp.PdpHashSize)  -- IFLA_GTP_PDP_HASHSIZE
    or row AtInfoGtp 4 (exactly le32) (value InfoGtp.Role)  -- IFLA_GTP_ROLE
    or row AtInfoGtp 5 (exactly boolean) (value InfoGtp.CreateSockets)  -- IFLA_GTP_CREATE_SOCKETS
    or row AtInfoGtp 6 (exactly byte) (value InfoGtp.RestartCount)  -- IFLA_GTP_RESTART_COUNT
    or row AtInfoGtp 7 (exactly octets4) (value InfoGtp.Local)  -- IFLA_GTP_LOCAL
    or row AtInfoGtp 8 (exactly octets16) (value InfoGtp.Local6)  -- IFLA_GTP_LOCAL6
    or others (value InfoGtp.Other)) refl refl

-- the family
unfoldable pub attributes : Reading (writing_of table)
attributes = attributes_of table

abbrev pub family : Family InfoGtp (Unit {0})
family = family_of_table table (λ c. attributes)
