-- The attributes of a neighbour message (linux/neighbour.h, NDA_*), by their table under the header's family.
use Rattle.std.proofs.Common.{◌≡◌, inl, inr, refl}
use Rattle.npr_base.specs.declared.address_family.AddressFamily.{AddressFamily}
use Rattle.npr_base.specs.declared.attribute_set.AttributeSet.TheVariants.{Neighbour, NeighbourFdb}
use Rattle.npr_base.specs.EnumFamily.{rewritten}
use Rattle.npr_base.specs.Family.{Writing}
use Rattle.npr_base.specs.Tables.{EnumTable, table_of, row, marked_row, others, ◌or◌, value, items, seen, exactly, leading, raw, le16, le32, be16, Reading}
use Rattle.npr_base.specs.Tables.{list_of, listed, Family, Meanings, writing_of, attributes_of, family_of_table}
use Rattle.npr_route_values.specs.RouteProtocol.{route_protocol}
use Rattle.npr_neighbour.specs.CacheInfo.{cache_info}
use Rattle.npr_neighbour.specs.Fdb as OfFdb
use Rattle.npr_neighbour.specs.Flags.{ext_flags, flag_mask}
use Rattle.npr_neighbour.specs.NeighbourAddress.{address_of, address_in, Form, any, form_of}
use Rattle.npr_neighbour.specs.State.{state_mask}
use Rattle.npr_neighbour.specs.contracts.attribute.NeighbourAttribute.{enum}
use Rattle.npr_neighbour.specs.declared.attribute.NeighbourAttribute.{NeighbourAttribute}

-- the table, in the order of the variants
abbrev pub table : Form → EnumTable enum
table form =
    table_of enum (
    row Neighbour 1 (address_in form) (seen address_of NeighbourAttribute.Destination)  -- NDA_DST
    or row Neighbour 2 raw (items NeighbourAttribute.LinkLocalAddress)  -- NDA_LLADDR
    or row Neighbour 3 (leading cache_info) (value NeighbourAttribute.CacheInfo)  -- NDA_CACHEINFO
    or row Neighbour 4 (exactly le32) (value NeighbourAttribute.Probes)  -- NDA_PROBES
    or row Neighbour 5 (exactly le16) (value NeighbourAttribute.Vlan)  -- NDA_VLAN
    or row Neighbour 6 (exactly be16) (value NeighbourAttribute.Port)  -- NDA_PORT
    or row Neighbour 7 (exactly le32) (value NeighbourAttribute.Vni)  -- NDA_VNI
    or row Neighbour 8 (exactly le32) (value NeighbourAttribute.IfIndex)  -- NDA_IFINDEX
    or row Neighbour 9 (exactly le32) (value NeighbourAttribute.Controller)  -- NDA_MASTER
    or row Neighbour 10 (exactly le32) (value NeighbourAttribute.LinkNetNsId)  -- NDA_LINK_NETNSID
    or row Neighbour 11 (exactly le32) (value NeighbourAttribute.SourceVni)  -- NDA_SRC_VNI
    or row Neighbour 12 (exactly route_protocol) (value NeighbourAttribute.Protocol)  -- NDA_PROTOCOL
    or row Neighbour 13 (exactly le32) (value NeighbourAttribute.NhId)  -- NDA_NH_ID
    or row Neighbour 15 (exactly ext_flags) (value NeighbourAttribute.ExtFlags)  -- NDA_FLAGS_EXT
    or marked_row Neighbour 14 (list_of NeighbourFdb OfFdb.attributes) (listed OfFdb.family.meaning NeighbourAttribute.FdbExtAttributes)  -- NDA_FDB_EXT_ATTRS
    or row Neighbour 16 (exactly state_mask) (value NeighbourAttribute.StateMask)  -- NDA_NDM_STATE_MASK
    or row Neighbour 17 (exactly flag_mask) (value NeighbourAttribute.FlagsMask)  -- NDA_NDM_FLAGS_MASK
    or others (value NeighbourAttribute.Other)) refl refl

-- what an attribute is, without where it lies in memory
abbrev pub Meaning : Type 0
Meaning = Meanings (table any)

-- how each is written, whatever the form of an address
abbrev pub writing : Writing Meaning
writing = writing_of (table any)

pub shapes : (form : Form) (m : Meaning) → writing.shape m ≡ (writing_of (table form)).shape m
shapes form (inl a) = refl
shapes form (inr m) = refl

pub members : (form : Form) (m : Meaning) → writing.members m ≡ (writing_of (table form)).members m
members form (inl a) = refl
members form (inr m) = refl

-- the family, under an address family
abbrev pub attributes : AddressFamily → Reading writing
attributes family = let form = form_of family in rewritten (attributes_of (table form)) writing (shapes form) (members form)

abbrev pub family : Family NeighbourAttribute AddressFamily
family = family_of_table (table any) attributes
