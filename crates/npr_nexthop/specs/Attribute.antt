-- The attributes of a next hop message (linux/nexthop.h, NHA_*), by their table: under the header's family, and under the type of
-- encapsulation that governs them.
use Rattle.std.proofs.Common.{◌≡◌, inl, inr}
use Rattle.npr_base.specs.declared.address_family.AddressFamily.{AddressFamily}
use Rattle.npr_base.specs.declared.attribute_set.AttributeSet.TheVariants.{NextHop as AtNextHop, Encap as AtEncap, NextHopResGroup as AtGroup}
use Rattle.npr_base.specs.declared.attribute_set.AttributeSet.TheVariants.{NextHopResBucket as AtBucket, NextHopGroupStats as AtStats}
use Rattle.npr_base.specs.EnumFamily.{rewritten}
use Rattle.npr_base.specs.Family.{Writing}
use Rattle.npr_base.specs.Tables.{EnumTable, table_of, marked_row, row, others, ◌or◌, dropped, exactly, items, le32, list_of, listed, nothing, seen, value}
use Rattle.npr_base.specs.Tables.{Family, Meanings, Reading, attributes_of, family_of_table, refl, writing_of}
use Rattle.npr_route_values.specs.RouteAddress.{Form, address_in, address_of, any, form_of}
use Rattle.npr_encapsulation.specs.EncapType.{encap_type}
use Rattle.npr_encapsulation.specs.Encapsulation as OfEncap
use Rattle.npr_encapsulation.specs.declared.encap_type.RouteLwEnCapType.{RouteLwEnCapType}
use Rattle.npr_encapsulation.specs.declared.encap_type.RouteLwEnCapType.TheVariants.{None as NoEncapsulation}
use Rattle.npr_nexthop.specs.Group.{group_entries}
use Rattle.npr_nexthop.specs.GroupStats as OfStats
use Rattle.npr_nexthop.specs.GroupType.{group_type}
use Rattle.npr_nexthop.specs.OpFlags.{op_flags}
use Rattle.npr_nexthop.specs.ResBucket as OfBucket
use Rattle.npr_nexthop.specs.ResGroup as OfGroup
use Rattle.npr_nexthop.specs.contracts.attribute.NextHopAttribute.{enum}
use Rattle.npr_nexthop.specs.declared.attribute.NextHopAttribute.{NextHopAttribute}

-- the family of the header, and the type that governs
abbrev pub Context : Type 0
Context = AddressFamily × RouteLwEnCapType

-- the table, in the order of the variants: under the form of an address, and the family of encapsulations
abbrev pub table : Form → Reading OfEncap.writing → EnumTable enum
table form encapsulations =
    table_of enum (
    row AtNextHop 6 (address_in form) (seen address_of NextHopAttribute.Gateway)  -- NHA_GATEWAY
    or marked_row AtNextHop 8 (list_of AtEncap encapsulations) (listed OfEncap.meaning_of NextHopAttribute.Encap)  -- NHA_ENCAP
    or row AtNextHop 7 (exactly encap_type) (value NextHopAttribute.EncapType)  -- NHA_ENCAP_TYPE
    or row AtNextHop 1 (exactly le32) (value NextHopAttribute.Id)  -- NHA_ID
    or row AtNextHop 2 group_entries (items NextHopAttribute.Group)  -- NHA_GROUP
    or row AtNextHop 3 (exactly group_type) (value NextHopAttribute.GroupType)  -- NHA_GROUP_TYPE
    or row AtNextHop 4 dropped (nothing NextHopAttribute.Blackhole)  -- NHA_BLACKHOLE
    or row AtNextHop 5 (exactly le32) (value NextHopAttribute.Oif)  -- NHA_OIF
    or row AtNextHop 9 dropped (nothing NextHopAttribute.Groups)  -- NHA_GROUPS
    or row AtNextHop 10 (exactly le32) (value NextHopAttribute.Controller)  -- NHA_MASTER
    or row AtNextHop 11 dropped (nothing NextHopAttribute.Fdb)  -- NHA_FDB
    or marked_row AtNextHop 12 (list_of AtGroup OfGroup.attributes) (listed OfGroup.family.meaning NextHopAttribute.ResGroup)  -- NHA_RES_GROUP
    or marked_row AtNextHop 13 (list_of AtBucket OfBucket.attributes) (listed OfBucket.family.meaning NextHopAttribute.ResBucket)  -- NHA_RES_BUCKET
    or row AtNextHop 14 (exactly op_flags) (value NextHopAttribute.OpFlags)  -- NHA_OP_FLAGS
    or marked_row AtNextHop 15 (list_of AtStats OfStats.attributes) (listed OfStats.family.meaning NextHopAttribute.GroupStats)  -- NHA_GROUP_STATS
    or row AtNextHop 16 (exactly le32) (value NextHopAttribute.HwStatsEnable)  -- NHA_HW_STATS_ENABLE
    or row AtNextHop 17 (exactly le32) (value NextHopAttribute.HwStatsUsed)  -- NHA_HW_STATS_USED
    or others (value NextHopAttribute.Other)) refl refl

-- in no context
abbrev pub plain : EnumTable enum
plain = table any (OfEncap.encapsulation NoEncapsulation)

-- what an attribute is, without where it lies in memory
abbrev pub Meaning : Type 0
Meaning = Meanings plain

-- how each is written, whatever the context
abbrev pub writing : Writing Meaning
writing = writing_of plain

pub shapes : (form : Form) (f : Reading OfEncap.writing) (m : Meaning) → writing.shape m ≡ (writing_of (table form f)).shape m
shapes form f (inl a) = refl
shapes form f (inr (inl xs)) = refl
shapes form f (inr (inr m)) = refl

pub members : (form : Form) (f : Reading OfEncap.writing) (m : Meaning) → writing.members m ≡ (writing_of (table form f)).members m
members form f (inl a) = refl
members form f (inr (inl xs)) = refl
members form f (inr (inr m)) = refl

-- the family, in a context
abbrev pub attributes : Context → Reading writing
attributes c =
    let form = form_of c.0 in
    let f = OfEncap.encapsulation c.1 in
    rewritten (attributes_of (table form f)) writing (shapes form f) (members form f)

abbrev pub family : Family NextHopAttribute Context
family = family_of_table plain attributes
