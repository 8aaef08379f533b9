-- What `==` answers of tunnels and their options: whether they mean the same.
use Rattle.std.specs.Prelude.{ℕ}
use Rattle.std.specs.Cmp.{unsigned_Decides}
use Rattle.std.proofs.Common.{refl, ap}
use Rattle.npr_base.specs.Equality.{IsEquality, IsEqualityOf}
use Rattle.npr_base.proofs.EqualityLaws.{enum_equality, one_equality}
use Rattle.npr_base.specs.ViewEquality.{item_equality}
use Rattle.npr_base.proofs.IpLaws.{ipv4_equality, ipv6_equality}
use Rattle.npr_base.specs.EnumTable.{◌also◌}
use Rattle.npr_base.specs.Tables.{table_decides}
use Rattle.npr_base.proofs.MeaningLaws.{enum_meaning, one_meaning, items_equality, items_meaning}
use Rattle.npr_base.proofs.StructLaws.{and_decides, decides_as}
use Rattle.npr_route_values.proofs.EqualityLaws.{label_equality}
use Rattle.npr_srh.proofs.EqualityLaws.{seg6_equality, local_equality, rpl_equality, ioam6_equality}
use Rattle.npr_srh.specs.Ioam6Tunnel as OfIoam6
use Rattle.npr_srh.specs.RplTunnel as OfRpl
use Rattle.npr_srh.specs.Seg6LocalTunnel as OfLocal
use Rattle.npr_srh.specs.Seg6Tunnel as OfSeg6
use Rattle.npr_encapsulation.specs.Geneve.{Geneve, option_of}
use Rattle.npr_encapsulation.specs.contracts.encap_type.RouteLwEnCapType.{enum as encap_type_enum}
use Rattle.npr_encapsulation.specs.contracts.encap_type.RouteLwEnCapTypePartialEq.TheImpl as TypeEq
use Rattle.npr_encapsulation.specs.contracts.geneve.RouteGeneveOptPartialEq.TheImpl as GeneveEq
use Rattle.npr_encapsulation.specs.XfrmTunnel as OfXfrm
use Rattle.npr_encapsulation.specs.MplsTunnel as OfMpls
use Rattle.npr_encapsulation.specs.VxlanOptions as OfVxlan
use Rattle.npr_encapsulation.specs.ErspanOptions as OfErspan
use Rattle.npr_encapsulation.specs.TunnelOptions as OfOption
use Rattle.npr_encapsulation.specs.IpTunnel as OfIp
use Rattle.npr_encapsulation.specs.Encapsulation as OfEncap
use Rattle.npr_encapsulation.specs.contracts.xfrm.RouteXfrmTunnelPartialEq.TheImpl as XfrmEq
use Rattle.npr_encapsulation.specs.contracts.mpls.RouteMplsIpTunnelPartialEq.TheImpl as MplsEq
use Rattle.npr_encapsulation.specs.contracts.vxlan.RouteVxlanOptPartialEq.TheImpl as VxlanEq
use Rattle.npr_encapsulation.specs.contracts.erspan.RouteErspanOptPartialEq.TheImpl as ErspanEq
use Rattle.npr_encapsulation.specs.contracts.tunnel_opts.RouteLwTunnelOptPartialEq.TheImpl as TunnelOptionEq
use Rattle.npr_encapsulation.specs.contracts.ip.RouteIpTunnelPartialEq.TheImpl as IpEq
use Rattle.npr_encapsulation.specs.contracts.ip6.RouteIp6TunnelPartialEq.TheImpl as Ip6Eq
use Rattle.npr_encapsulation.specs.contracts.encap.RouteLwTunnelEncap.{enum as encap_enum}
use Rattle.npr_encapsulation.specs.contracts.encap.RouteLwTunnelEncapPartialEq.TheImpl as EncapEq

-- ---- the fields

pub encap_type_equality : IsEquality TypeEq.ghosts.eq
encap_type_equality = enum_equality encap_type_enum _ refl (one_equality unsigned_Decides, tt)

pub geneve_equality : IsEqualityOf option_of GeneveEq.ghosts.eq
geneve_equality a b =
    decides_as
    (λ p. λ i. record { class = p.0 i; typ = p.1.0 i; opt_data = p.1.1 i })
    (λ e. (ap (λ (o : Geneve). o.class) e, (ap (λ (o : Geneve). o.typ) e, ap (λ (o : Geneve). o.opt_data) e)))
    (and_decides (unsigned_Decides a.class b.class)
    (and_decides (unsigned_Decides a.typ b.typ) (items_equality unsigned_Decides a.opt_data b.opt_data)))

-- ---- the members and options

pub xfrm_equality : IsEqualityOf OfXfrm.family.meaning XfrmEq.ghosts.eq
xfrm_equality = table_decides OfXfrm.table _ (search (unsigned_Decides, item_equality) depth 40)

pub mpls_equality : IsEqualityOf OfMpls.family.meaning MplsEq.ghosts.eq
mpls_equality =
    table_decides OfMpls.table _ (search (items_equality, label_equality, unsigned_Decides, item_equality) depth 40)

pub vxlan_equality : IsEqualityOf OfVxlan.family.meaning VxlanEq.ghosts.eq
vxlan_equality = table_decides OfVxlan.table _ (search (unsigned_Decides, item_equality) depth 40)

pub erspan_equality : IsEqualityOf OfErspan.family.meaning ErspanEq.ghosts.eq
erspan_equality = table_decides OfErspan.table _ (search (unsigned_Decides, item_equality) depth 40)

pub tunnel_option_equality : IsEqualityOf OfOption.family.meaning TunnelOptionEq.ghosts.eq
tunnel_option_equality =
    table_decides OfOption.table _ (search (items_meaning, geneve_equality, vxlan_equality, erspan_equality, item_equality) depth 40)

pub ip_equality : IsEqualityOf OfIp.family.meaning IpEq.ghosts.eq
ip_equality =
    table_decides OfIp.table _
    (search (unsigned_Decides, ipv4_equality, items_meaning, tunnel_option_equality, item_equality) depth 40)

pub ip6_equality : IsEqualityOf OfIp.family6.meaning Ip6Eq.ghosts.eq
ip6_equality =
    table_decides OfIp.table6 _
    (search (unsigned_Decides, ipv6_equality, items_meaning, tunnel_option_equality, item_equality) depth 40)

encap_order : OfEncap.Meaning → ℕ
encap_order (OfEncap.mpls x) = 0
encap_order (OfEncap.seg6 x) = 1
encap_order (OfEncap.ip x) = 2
encap_order (OfEncap.ip6 x) = 3
encap_order (OfEncap.ioam6 x) = 4
encap_order (OfEncap.rpl x) = 5
encap_order (OfEncap.seg6_local x) = 6
encap_order (OfEncap.xfrm x) = 7
encap_order (OfEncap.other x) = 8

pub encap_equality : IsEqualityOf OfEncap.meaning_of EncapEq.ghosts.eq
unfolding encap_order
encap_equality =
    enum_meaning encap_order encap_enum OfEncap.meaning_of _ (λ t.
    (λ x. refl, one_meaning OfMpls.family.meaning OfEncap.mpls mpls_equality (λ p q e. cc)) also
    (λ x. refl, one_meaning OfSeg6.family.meaning OfEncap.seg6 seg6_equality (λ p q e. cc)) also
    (λ x. refl, one_meaning OfIp.family.meaning OfEncap.ip ip_equality (λ p q e. cc)) also
    (λ x. refl, one_meaning OfIp.family6.meaning OfEncap.ip6 ip6_equality (λ p q e. cc)) also
    (λ x. refl, one_meaning OfIoam6.family.meaning OfEncap.ioam6 ioam6_equality (λ p q e. cc)) also
    (λ x. refl, one_meaning OfRpl.family.meaning OfEncap.rpl rpl_equality (λ p q e. cc)) also
    (λ x. refl, one_meaning OfLocal.family.meaning OfEncap.seg6_local local_equality (λ p q e. cc)) also
    (λ x. refl, one_meaning OfXfrm.family.meaning OfEncap.xfrm xfrm_equality (λ p q e. cc)) also
    (λ x. refl, one_meaning (λ d. d) OfEncap.other item_equality (λ p q e. cc)) also tt)
