-- The data of a ring of IEC 62439-3 (linux/if_link.h, IFLA_HSR_*), by the table.
use Rattle.npr_base.specs.declared.attribute_set.AttributeSet.TheVariants.{InfoHsr as AtInfoHsr}
use Rattle.npr_base.specs.Tables.{EnumTable, table_of, row, others, ◌or◌, byte, exactly, le16, le32, octets, value}
use Rattle.npr_base.specs.Tables.{refl, Reading, Family, writing_of, attributes_of, family_of_table}
use Rattle.npr_link_devices.specs.HsrProtocol.{hsr_protocol}
use Rattle.npr_link_devices.specs.contracts.hsr.InfoHsr.{enum}
use Rattle.npr_link_devices.specs.declared.hsr.InfoHsr.{InfoHsr}

-- the table, in the order of the variants
abbrev pub table : EnumTable enum
table =
    table_of enum (
    row AtInfoHsr 1 (exactly le32) (value InfoHsr.Port1)  -- IFLA_HSR_SLAVE1
    or row AtInfoHsr 2 (exactly le32) (value InfoHsr.Port2)  -- IFLA_HSR_SLAVE2
    or row AtInfoHsr 3 (exactly byte) (value InfoHsr.MulticastSpec)  -- IFLA_HSR_MULTICAST_SPEC
    or row AtInfoHsr 4 (exactly (octets 6)) (value InfoHsr.SupervisionAddr)  -- IFLA_HSR_SUPERVISION_ADDR
    or row AtInfoHsr 5 (exactly le16) (value InfoHsr.SeqNr)  -- IFLA_HSR_SEQ_NR
    or row AtInfoHsr 6 (exactly byte) (value InfoHsr.Version)  -- IFLA_HSR_VERSION
    or row AtInfoHsr 7 (exactly hsr_protocol) (value InfoHsr.Protocol)  -- IFLA_HSR_PROTOCOL
    or row AtInfoHsr 8 (exactly le32) (value InfoHsr.Interlink)  -- IFLA_HSR_INTERLINK
    or others (value InfoHsr.Other)) refl refl

-- the family
unfoldable pub attributes : Reading (writing_of table)
attributes = attributes_of table

abbrev pub family : Family InfoHsr (Unit {0})
family = family_of_table table (λ c. attributes)
