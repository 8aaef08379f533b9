-- The data of a pair (linux/veth.h, VETH_INFO_*), by their table.
use Rattle.npr_base.specs.declared.attribute_set.AttributeSet.TheVariants.{InfoVeth as AtVeth}
use Rattle.npr_base.specs.Tables.{EnumTable, table_of, row, others, ◌or◌, value, seen, refl, Reading, Family, writing_of, attributes_of, family_of_table}
use Rattle.npr_link.specs.Peer.{peer, peer_of}
use Rattle.npr_link.specs.contracts.veth.InfoVeth.{enum}
use Rattle.npr_link.specs.declared.veth.InfoVeth.{InfoVeth}

-- the table, in the order of the variants
abbrev pub table : EnumTable enum
table =
    table_of enum (
    row AtVeth 1 peer (seen peer_of InfoVeth.Peer)  -- VETH_INFO_PEER
    or others (value InfoVeth.Other)) refl refl

-- the family
unfoldable pub attributes : Reading (writing_of table)
attributes = attributes_of table

abbrev pub family : Family InfoVeth (Unit {0})
family = family_of_table table (λ c. attributes)
