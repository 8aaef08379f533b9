-- What `==` answers of the values of routes: whether two are equal, or mean the same where they hold a vector.
use Rattle.std.specs.Prelude.{◌≡◌, ℕ, List, ◌&&◌, nat_eq}
use Rattle.std.specs.Cmp.{signed_Decides, unsigned_Decides}
use Rattle.std.specs.Cmp.Lexicographic.{pointwise}
use Rattle.std.specs.declared.alloc.Global.{Global}
use Rattle.std.specs.declared.vec.Vec.{Vec}
use Rattle.std.proofs.Common.{refl, rules, ap}
use Rattle.npr_base.proofs.AddressFamilyLaws.{family_equality}
use Rattle.npr_base.specs.declared.address_family.AddressFamily.{AddressFamily}
use Rattle.npr_base.specs.Equality.{IsEquality, IsEqualityOf}
use Rattle.npr_base.proofs.EqualityLaws.{enum_equality, one_equality}
use Rattle.npr_base.proofs.IpLaws.{ipv4_equality, ipv6_equality}
use Rattle.npr_base.specs.EnumTable.{◌also◌}
use Rattle.npr_base.proofs.MeaningLaws.{enum_meaning, one_meaning, items_equality}
use Rattle.npr_base.proofs.StructLaws.{and_decides, decides_as}
use Rattle.npr_base.specs.contracts.address_family.AddressFamilyPartialEq.TheImpl as FamilyEq
use Rattle.npr_route_values.specs.RouteAddress as A
use Rattle.npr_route_values.specs.RouteVia as V
use Rattle.npr_route_values.specs.contracts.address.RouteAddress.{enum as address_enum}
use Rattle.npr_route_values.specs.contracts.address.RouteAddressPartialEq.TheImpl as AddressEq
use Rattle.npr_route_values.specs.contracts.cache_info.RouteCacheInfoPartialEq.TheImpl as CacheInfoEq
use Rattle.npr_route_values.specs.contracts.flags.RouteFlagsPartialEq.TheImpl as FlagsEq
use Rattle.npr_route_values.specs.contracts.mfc_stats.RouteMfcStatsPartialEq.TheImpl as StatsEq
use Rattle.npr_route_values.specs.contracts.realm.RouteRealmPartialEq.TheImpl as RealmEq
use Rattle.npr_route_values.specs.contracts.mpls.MplsLabelPartialEq.TheImpl as LabelEq
use Rattle.npr_route_values.specs.contracts.via.RouteVia.{enum as via_enum}
use Rattle.npr_route_values.specs.contracts.via.RouteViaPartialEq.TheImpl as ViaEq
use Rattle.npr_route_values.specs.contracts.route_protocol.RouteProtocol.{enum as route_protocol_enum}
use Rattle.npr_route_values.specs.contracts.route_protocol.RouteProtocolPartialEq.TheImpl as RouteProtocolEq
use Rattle.npr_route_values.specs.contracts.route_scope.RouteScope.{enum as route_scope_enum}
use Rattle.npr_route_values.specs.contracts.route_scope.RouteScopePartialEq.TheImpl as RouteScopeEq
use Rattle.npr_route_values.specs.contracts.route_type.RouteType.{enum as route_type_enum}
use Rattle.npr_route_values.specs.contracts.route_type.RouteTypePartialEq.TheImpl as RouteTypeEq
use Rattle.npr_route_values.specs.contracts.preference.RoutePreference.{enum as route_preference_enum}
use Rattle.npr_route_values.specs.contracts.preference.RoutePreferencePartialEq.TheImpl as RoutePreferenceEq
use Rattle.npr_route_values.specs.contracts.preference.RouteMplsTtlPropagation.{enum as ttl_propagation_enum}
use Rattle.npr_route_values.specs.contracts.preference.RouteMplsTtlPropagationPartialEq.TheImpl as RouteMplsTtlPropagationEq
use Rattle.npr_route_values.specs.contracts.ip_protocol.IpProtocol.{enum as ip_protocol_enum}
use Rattle.npr_route_values.specs.contracts.ip_protocol.IpProtocolPartialEq.TheImpl as IpProtocolEq

pub route_protocol_equality : IsEquality RouteProtocolEq.ghosts.eq
route_protocol_equality = enum_equality route_protocol_enum _ refl (one_equality unsigned_Decides, tt)

pub route_scope_equality : IsEquality RouteScopeEq.ghosts.eq
route_scope_equality = enum_equality route_scope_enum _ refl (one_equality unsigned_Decides, tt)

pub route_type_equality : IsEquality RouteTypeEq.ghosts.eq
route_type_equality = enum_equality route_type_enum _ refl (one_equality unsigned_Decides, tt)

pub route_preference_equality : IsEquality RoutePreferenceEq.ghosts.eq
route_preference_equality = enum_equality route_preference_enum _ refl (one_equality unsigned_Decides, tt)

pub ttl_propagation_equality : IsEquality RouteMplsTtlPropagationEq.ghosts.eq
ttl_propagation_equality = enum_equality ttl_propagation_enum _ refl (one_equality unsigned_Decides, tt)

pub ip_protocol_equality : IsEquality IpProtocolEq.ghosts.eq
ip_protocol_equality = enum_equality ip_protocol_enum _ refl (one_equality signed_Decides, tt)

pub label_equality : IsEquality LabelEq.ghosts.eq
label_equality = search rules

pub realm_equality : IsEquality RealmEq.ghosts.eq
realm_equality = search rules

pub cache_info_equality : IsEquality CacheInfoEq.ghosts.eq
cache_info_equality = search rules

pub mfc_stats_equality : IsEquality StatsEq.ghosts.eq
mfc_stats_equality = search rules

pub route_flags_equality : IsEquality FlagsEq.ghosts.eq
route_flags_equality = search rules

-- the places of the variants
address_order : A.Address → ℕ
address_order (A.inet a) = 0
address_order (A.inet6 a) = 1
address_order (A.mpls l) = 2
address_order (A.other v) = 3

pub address_equality : IsEqualityOf A.address_of AddressEq.ghosts.eq
unfolding address_order
address_equality =
    enum_meaning address_order address_enum A.address_of _ (λ t.
    (λ x. refl, one_meaning (λ a. a) A.inet ipv4_equality (λ p q e. cc)) also
    (λ x. refl, one_meaning (λ a. a) A.inet6 ipv6_equality (λ p q e. cc)) also
    (λ x. refl, one_meaning (λ l. l) A.mpls label_equality (λ p q e. cc)) also
    (λ x. refl, one_meaning (λ v. v.items) A.other (items_equality unsigned_Decides) (λ p q e. cc)) also tt)

via_order : V.Via → ℕ
via_order (V.inet a) = 0
via_order (V.inet6 a) = 1
via_order (V.packet a) = 2
via_order (V.other f a) = 3

-- the family and the bytes of an address of another family
abbrev of_other : AddressFamily × Vec ℕ Global → AddressFamily × List ℕ
of_other p = (p.0, p.1.items)

abbrev other_of : AddressFamily × List ℕ → V.Via
other_of p = V.other p.0 p.1

other_one : (p q : AddressFamily × List ℕ) → other_of p ≡ other_of q → p ≡ q
other_one p q e =
    let family : p.0 ≡ q.0 = cc in
    let bytes : p.1 ≡ q.1 = cc in
    λ i. (family i, bytes i)

other_equality : IsEqualityOf of_other (λ p q. FamilyEq.ghosts.eq p.0 q.0 && pointwise nat_eq p.1.items q.1.items)
other_equality p q =
    decides_as
    (λ e. λ i. (e.0 i, e.1 i))
    (λ e. (ap (λ (a : AddressFamily × List ℕ). a.0) e, ap (λ (a : AddressFamily × List ℕ). a.1) e))
    (and_decides (family_equality p.0 q.0) (items_equality unsigned_Decides p.1 q.1))

pub via_equality : IsEqualityOf V.via_of ViaEq.ghosts.eq
unfolding via_order
via_equality =
    enum_meaning via_order via_enum V.via_of _ (λ t.
    (λ x. refl, one_meaning (λ a. a) V.inet ipv4_equality (λ p q e. cc)) also
    (λ x. refl, one_meaning (λ a. a) V.inet6 ipv6_equality (λ p q e. cc)) also
    (λ x. refl, one_meaning (λ v. v.items) V.packet (items_equality unsigned_Decides) (λ p q e. cc)) also
    (λ x. refl, one_meaning of_other other_of other_equality other_one) also tt)
