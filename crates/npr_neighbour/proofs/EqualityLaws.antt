-- What `==` answers of addresses, attributes and messages: whether they mean the same.
use Rattle.std.specs.Prelude.{ℕ}
use Rattle.std.specs.Cmp.{unsigned_Decides}
use Rattle.std.proofs.Common.{refl, rules}
use Rattle.npr_base.proofs.AddressFamilyLaws.{family_equality}
use Rattle.npr_base.specs.Equality.{IsEquality, IsEqualityOf}
use Rattle.npr_base.proofs.IpLaws.{ipv4_equality, ipv6_equality}
use Rattle.npr_base.specs.EnumTable.{◌also◌}
use Rattle.npr_base.specs.Tables.{table_decides}
use Rattle.npr_base.proofs.FieldEquality.{one, kept, nothing}
use Rattle.npr_base.proofs.MeaningLaws.{enum_meaning, one_meaning, items_equality, items_meaning}
use Rattle.npr_base.proofs.EqualityLaws.{one_equality}
use Rattle.npr_base.proofs.StructLaws.{◌beside◌, struct_equality}
use Rattle.npr_base.specs.ViewEquality.{item_equality}
use Rattle.npr_route_values.proofs.EqualityLaws.{route_protocol_equality, route_type_equality}
use Rattle.npr_neighbour.specs.contracts.header.NeighbourHeader.{struct}
use Rattle.npr_neighbour.specs.Attribute.{family, table}
use Rattle.npr_neighbour.specs.NeighbourAddress as A
use Rattle.npr_neighbour.specs.contracts.address.NeighbourAddress.{enum as address_enum}
use Rattle.npr_neighbour.specs.contracts.address.NeighbourAddressPartialEq.TheImpl as AddressEq
use Rattle.npr_neighbour.specs.contracts.attribute.NeighbourAttributePartialEq.TheImpl as AttributeEq
use Rattle.npr_neighbour.specs.contracts.cache_info.NeighbourCacheInfoPartialEq.TheImpl as InfoEq
use Rattle.npr_neighbour.specs.contracts.flags.NeighbourExtFlagsPartialEq.TheImpl as ExtendedFlagsEq
use Rattle.npr_neighbour.specs.Fdb as OfFdb
use Rattle.npr_neighbour.specs.contracts.fdb.NeighbourFdbAttributePartialEq.TheImpl as FdbEq
use Rattle.npr_neighbour.specs.contracts.flags.NeighbourFdbNotifyPartialEq.TheImpl as FdbNotifyEq
use Rattle.npr_neighbour.specs.contracts.flags.NeighbourFlagsPartialEq.TheImpl as FlagsEq
use Rattle.npr_neighbour.specs.contracts.header.NeighbourHeaderPartialEq.TheImpl as HeaderEq
use Rattle.npr_neighbour.specs.contracts.state.NeighbourStatePartialEq.TheImpl as StateEq

-- the places of the variants
address_order : A.Address → ℕ
address_order (A.inet a) = 0
address_order (A.inet6 a) = 1
address_order (A.other v) = 2

pub address_equality : IsEqualityOf A.address_of AddressEq.ghosts.eq
unfolding address_order
address_equality =
    enum_meaning address_order address_enum A.address_of _ (λ t.
    (λ x. refl, one_meaning (λ a. a) A.inet ipv4_equality (λ p q e. cc)) also
    (λ x. refl, one_meaning (λ a. a) A.inet6 ipv6_equality (λ p q e. cc)) also
    (λ x. refl, one_meaning (λ v. v.items) A.other (items_equality unsigned_Decides) (λ p q e. cc)) also tt)

info_equality : IsEquality InfoEq.ghosts.eq
info_equality = search rules

extended_flags_equality : IsEquality ExtendedFlagsEq.ghosts.eq
extended_flags_equality = search rules

flags_equality : IsEquality FlagsEq.ghosts.eq
flags_equality = search rules

state_equality : IsEquality StateEq.ghosts.eq
state_equality = search rules

pub header_equality : IsEquality HeaderEq.ghosts.eq
header_equality =
    struct_equality struct (λ v. tt) (λ d. refl)
    (family_equality beside unsigned_Decides beside state_equality beside flags_equality beside one_equality route_type_equality)

fdb_notify_equality : IsEquality FdbNotifyEq.ghosts.eq
fdb_notify_equality = search rules

pub fdb_equality : IsEqualityOf OfFdb.family.meaning FdbEq.ghosts.eq
fdb_equality = table_decides OfFdb.table _ (one fdb_notify_equality also nothing also kept also tt)

pub attribute_equality : IsEqualityOf family.meaning AttributeEq.ghosts.eq
attribute_equality =
    table_decides (table A.any) _
    (search (
      address_equality,
      items_equality,
      items_meaning,
      fdb_equality,
      unsigned_Decides,
      info_equality,
      route_protocol_equality,
      extended_flags_equality,
      state_equality,
      flags_equality,
      item_equality,
    ) depth 40)
