-- The program at the driver of a link (linux/if_link.h, IFLA_XDP_*), by the table.
use Rattle.npr_base.specs.declared.attribute_set.AttributeSet.TheVariants.{LinkXdp as AtXdp}
use Rattle.npr_base.specs.Tables.{EnumTable, table_of, row, others, ◌or◌, exactly, le32, signed32, value, refl, Reading, Family, writing_of, attributes_of}
use Rattle.npr_base.specs.Tables.{family_of_table}
use Rattle.npr_link.specs.XdpAttached.{attachment}
use Rattle.npr_link.specs.contracts.xdp.LinkXdp.{enum}
use Rattle.npr_link.specs.declared.xdp.LinkXdp.{LinkXdp}

-- the table, in the order of the variants
abbrev pub table : EnumTable enum
table =
    table_of enum (
    row AtXdp 1 (exactly signed32) (value LinkXdp.Fd)  -- IFLA_XDP_FD
    or row AtXdp 2 (exactly attachment) (value LinkXdp.Attached)  -- IFLA_XDP_ATTACHED
    or row AtXdp 3 (exactly le32) (value LinkXdp.Flags)  -- IFLA_XDP_FLAGS
    or row AtXdp 4 (exactly le32) (value LinkXdp.ProgId)  -- IFLA_XDP_PROG_ID
    or row AtXdp 5 (exactly le32) (value LinkXdp.DrvProgId)  -- IFLA_XDP_DRV_PROG_ID
    or row AtXdp 6 (exactly le32) (value LinkXdp.SkbProgId)  -- IFLA_XDP_SKB_PROG_ID
    or row AtXdp 7 (exactly le32) (value LinkXdp.HwProgId)  -- IFLA_XDP_HW_PROG_ID
    or row AtXdp 8 (exactly le32) (value LinkXdp.ExpectedFd)  -- IFLA_XDP_EXPECTED_FD
    or others (value LinkXdp.Other)) refl refl

-- the family
unfoldable pub attributes : Reading (writing_of table)
attributes = attributes_of table

abbrev pub family : Family LinkXdp (Unit {0})
family = family_of_table table (λ c. attributes)
