-- What `==` answers of what is said of next hops: whether two values are equal, or mean the same.
use Rattle.std.specs.Cmp.{unsigned_Decides}
use Rattle.std.proofs.Common.{refl, rules}
use Rattle.npr_base.proofs.AddressFamilyLaws.{family_equality}
use Rattle.npr_base.specs.EnumTable.{◌also◌}
use Rattle.npr_base.specs.Equality.{IsEquality, IsEqualityOf}
use Rattle.npr_base.proofs.EqualityLaws.{enum_equality, one_equality}
use Rattle.npr_base.proofs.FieldEquality.{one, list, number, kept, nothing}
use Rattle.npr_base.proofs.MeaningLaws.{items_equality}
use Rattle.npr_base.proofs.StructLaws.{◌beside◌, struct_equality}
use Rattle.npr_base.specs.Tables.{table_decides}
use Rattle.npr_route_values.proofs.EqualityLaws.{address_equality, route_flags_equality, route_protocol_equality, route_scope_equality}
use Rattle.npr_encapsulation.proofs.EqualityLaws.{encap_equality, encap_type_equality}
use Rattle.npr_nexthop.specs.Attribute as OfAttribute
use Rattle.npr_nexthop.specs.GroupStats as OfStats
use Rattle.npr_nexthop.specs.GroupStatsEntry as OfEntry
use Rattle.npr_nexthop.specs.ResBucket as OfBucket
use Rattle.npr_nexthop.specs.ResGroup as OfGroup
use Rattle.npr_nexthop.specs.contracts.attribute.NextHopAttributePartialEq.TheImpl as AttributeEq
use Rattle.npr_nexthop.specs.contracts.group.NextHopGroupEntry.{struct as entry_struct}
use Rattle.npr_nexthop.specs.contracts.group.NextHopGroupEntryPartialEq.TheImpl as GroupEntryEq
use Rattle.npr_nexthop.specs.contracts.group_stats.NextHopGroupStatsPartialEq.TheImpl as StatsEq
use Rattle.npr_nexthop.specs.contracts.group_stats_entry.NextHopGroupStatsEntryPartialEq.TheImpl as EntryEq
use Rattle.npr_nexthop.specs.contracts.group_type.NextHopGroupType.{enum as group_type_enum}
use Rattle.npr_nexthop.specs.contracts.group_type.NextHopGroupTypePartialEq.TheImpl as GroupTypeEq
use Rattle.npr_nexthop.specs.contracts.header.NextHopHeader.{struct}
use Rattle.npr_nexthop.specs.contracts.header.NextHopHeaderPartialEq.TheImpl as HeaderEq
use Rattle.npr_nexthop.specs.contracts.op_flags.NextHopOpFlagsPartialEq.TheImpl as OpFlagsEq
use Rattle.npr_nexthop.specs.contracts.res_bucket.NextHopResBucketPartialEq.TheImpl as BucketEq
use Rattle.npr_nexthop.specs.contracts.res_group.NextHopResGroupPartialEq.TheImpl as GroupEq

-- ---- values

pub group_type_equality : IsEquality GroupTypeEq.ghosts.eq
group_type_equality = enum_equality group_type_enum _ refl (one_equality unsigned_Decides, tt)

pub op_flags_equality : IsEquality OpFlagsEq.ghosts.eq
op_flags_equality = search rules

pub group_entry_equality : IsEquality GroupEntryEq.ghosts.eq
group_entry_equality = struct_equality entry_struct (λ v. tt) (λ d. refl) (unsigned_Decides beside one_equality unsigned_Decides)

pub header_equality : IsEquality HeaderEq.ghosts.eq
header_equality =
    struct_equality struct (λ v. tt) (λ d. refl)
    (family_equality beside route_scope_equality beside route_protocol_equality beside one_equality route_flags_equality)

-- ---- families

pub res_group_equality : IsEqualityOf OfGroup.family.meaning GroupEq.ghosts.eq
res_group_equality = table_decides OfGroup.table _ (number also number also number also number also kept also tt)

pub res_bucket_equality : IsEqualityOf OfBucket.family.meaning BucketEq.ghosts.eq
res_bucket_equality = table_decides OfBucket.table _ (number also number also number also kept also tt)

pub group_stats_entry_equality : IsEqualityOf OfEntry.family.meaning EntryEq.ghosts.eq
group_stats_entry_equality = table_decides OfEntry.table _ (number also number also number also kept also tt)

pub group_stats_equality : IsEqualityOf OfStats.family.meaning StatsEq.ghosts.eq
group_stats_equality = table_decides OfStats.table _ (list group_stats_entry_equality also kept also tt)

pub attribute_equality : IsEqualityOf OfAttribute.family.meaning AttributeEq.ghosts.eq
attribute_equality =
    table_decides OfAttribute.plain _
    (one address_equality also list encap_equality also one encap_type_equality also number also one (items_equality group_entry_equality) also
    one group_type_equality also nothing also number also nothing also number also nothing also list res_group_equality also
    list res_bucket_equality also one op_flags_equality also list group_stats_equality also number also number also kept also tt)
