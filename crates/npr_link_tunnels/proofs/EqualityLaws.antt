-- What `==` answers of the data of tunnels: whether they mean the same.
use Rattle.std.specs.Prelude.{ℕ, ◌==◌, drop}
use Rattle.std.specs.Bool.{Decides}
use Rattle.std.specs.Cmp.{unsigned_Decides}
use Rattle.std.proofs.Common.{◌≡◌, ap, inl, inr}
use Rattle.npr_base.specs.Equality.{IsEqualityOf}
use Rattle.npr_base.specs.EnumTable.{◌also◌}
use Rattle.npr_base.proofs.FieldEquality.{one, number, truth, kept, nothing}
use Rattle.npr_base.proofs.IpLaws.{ip_equality, ipv4_equality, ipv6_equality}
use Rattle.npr_base.proofs.StructLaws.{◌beside◌, decides_as}
use Rattle.npr_base.specs.Tables.{table_decides}
use Rattle.npr_base.specs.lemmas.EnumTable.{choices-decide}
use Rattle.npr_route_values.proofs.EqualityLaws.{ip_protocol_equality}
use Rattle.npr_base.proofs.Firsts.{head_of, first-decides}
use Rattle.npr_link_tunnels.specs.TunnelFlags.{Flags, ipv4_flags, sit_flags, ipv6_flags, ipip}
use Rattle.npr_link_tunnels.specs.contracts.ip_tunnel.InfoIpTunnel.{enum}
use denote.Enum.Declared.{Choice}
use denote.Struct.Values.{Values}
use Rattle.npr_link_tunnels.specs.Geneve as OfGeneve
use Rattle.npr_link_tunnels.specs.contracts.geneve.InfoGenevePartialEq.TheImpl as GeneveEq
use Rattle.npr_link_tunnels.specs.Gre as OfGre
use Rattle.npr_link_tunnels.specs.contracts.gre.InfoGrePartialEq.TheImpl as GreEq
use Rattle.npr_link_tunnels.specs.Gre6 as OfGre6
use Rattle.npr_link_tunnels.specs.contracts.gre6.InfoGre6PartialEq.TheImpl as Gre6Eq
use Rattle.npr_link_tunnels.specs.IpTunnel as OfIpTunnel
use Rattle.npr_link_tunnels.specs.contracts.ip_tunnel.InfoIpTunnelPartialEq.TheImpl as IpTunnelEq
use Rattle.npr_link_tunnels.specs.Vti as OfVti
use Rattle.npr_link_tunnels.specs.contracts.vti.InfoVtiPartialEq.TheImpl as VtiEq
use Rattle.npr_link_tunnels.specs.Vxlan as OfVxlan
use Rattle.npr_link_tunnels.specs.contracts.vxlan.InfoVxlanPartialEq.TheImpl as VxlanEq
use Rattle.npr_link_tunnels.specs.Xfrm as OfXfrm
use Rattle.npr_link_tunnels.specs.contracts.xfrm.InfoXfrmPartialEq.TheImpl as XfrmEq
use Rattle.npr_link_tunnels.proofs.ValueEquality.{geneve_df_equality, gre_encap_type_equality, tunnel_encap_type_equality, gre_io_flags_equality, gre_encap_flags_equality, tunnel_encap_flags_equality, ip6_tunnel_flags_equality}
use Rattle.npr_link_tunnels.specs.Gtp as OfGtp
use Rattle.npr_link_tunnels.specs.contracts.gtp.InfoGtpPartialEq.TheImpl as InfoGtpEq
use Rattle.npr_link_tunnels.specs.Ovpn as OfOvpn
use Rattle.npr_link_tunnels.specs.contracts.ovpn.InfoOvpnPartialEq.TheImpl as InfoOvpnEq
use Rattle.npr_link_tunnels.proofs.ValueEquality.{ovpn_mode_equality}

-- ---- families

pub ovpn_equality : IsEqualityOf OfOvpn.family.meaning InfoOvpnEq.ghosts.eq
ovpn_equality =
    table_decides OfOvpn.table _
    (one ovpn_mode_equality also kept also tt)

pub gtp_equality : IsEqualityOf OfGtp.family.meaning InfoGtpEq.ghosts.eq
gtp_equality =
    table_decides OfGtp.table _
    (number also number also number also number also truth also number also one ipv4_equality also one ipv6_equality also kept also tt)

pub geneve_equality : IsEqualityOf OfGeneve.family.meaning GeneveEq.ghosts.eq
geneve_equality =
    table_decides OfGeneve.table _
    (number also one ipv4_equality also number also number also number also nothing also one ipv6_equality also truth also
    truth also truth also number also truth also one geneve_df_equality also nothing also
    one (unsigned_Decides beside unsigned_Decides) also nothing also one ipv4_equality also one ipv6_equality also kept also
    tt)

pub gre_equality : IsEqualityOf OfGre.family.meaning GreEq.ghosts.eq
gre_equality =
    table_decides OfGre.table _
    (number also one gre_io_flags_equality also one gre_io_flags_equality also number also number also
    one ipv4_equality also one ipv4_equality also number also number also truth also one gre_encap_type_equality also
    one gre_encap_flags_equality also number also number also nothing also truth also number also number also number also
    number also number also kept also tt)

pub gre6_equality : IsEqualityOf OfGre6.family.meaning Gre6Eq.ghosts.eq
gre6_equality =
    table_decides OfGre6.table _
    (number also one gre_io_flags_equality also one gre_io_flags_equality also number also number also
    one ipv6_equality also one ipv6_equality also number also number also number also one ip6_tunnel_flags_equality also
    one gre_encap_type_equality also one gre_encap_flags_equality also number also number also nothing also number also
    number also number also number also number also kept also tt)

pub vti_equality : IsEqualityOf OfVti.family.meaning VtiEq.ghosts.eq
vti_equality =
    table_decides OfVti.table _
    (number also number also number also one ip_equality also one ip_equality also number also kept also tt)

pub vxlan_equality : IsEqualityOf OfVxlan.family.meaning VxlanEq.ghosts.eq
vxlan_equality =
    table_decides OfVxlan.table _
    (number also one ipv4_equality also number also one ipv4_equality also number also number also truth also number also
    number also one (unsigned_Decides beside unsigned_Decides) also truth also truth also truth also truth also number also
    one ipv6_equality also one ipv6_equality also truth also truth also truth also truth also truth also truth also
    truth also truth also number also truth also truth also number also truth also truth also number also number also
    truth also kept also tt)

pub xfrm_equality : IsEqualityOf OfXfrm.family.meaning XfrmEq.ghosts.eq
xfrm_equality =
    table_decides OfXfrm.table _
    (number also number also nothing also kept also tt)

-- ---- and that whose first variants are flags, which have one row

two_bytes : (variant : ℕ → Flags) → ((m n : ℕ) → variant m ≡ variant n → m ≡ n) → (x y : ℕ × Unit {0})
    → Decides (x.0 == y.0) (◌≡◌ {A = OfIpTunnel.Meaning} (inl (variant x.0)) (inl (variant y.0)))
two_bytes variant one_way x y = decides_as (λ e. ap (λ (n : ℕ). inl (variant n)) e) (λ e. one_way x.0 y.0 (cc)) (number x y)

-- what the first means, no other variant does, and what the second means, no later one
first_apart : (x : Values (head_of enum.parts)) (c : Choice (drop 1 enum.parts)) → OfIpTunnel.meaning_of (inl x) ≡ OfIpTunnel.meaning_of (inr c) → ⊥
first_apart x (inl y) e = absurd cc
first_apart x (inr (inl y)) e = absurd cc
first_apart x (inr (inr c)) e = absurd cc

second_apart : (x : Values (head_of (drop 1 enum.parts))) (c : Choice OfIpTunnel.later)
    → OfIpTunnel.meaning_of (inr (inl x)) ≡ OfIpTunnel.meaning_of (inr (inr c)) → ⊥
second_apart x (inl y) e = absurd cc
second_apart x (inr c) e = absurd cc

pub ip_tunnel_equality : IsEqualityOf OfIpTunnel.family.meaning IpTunnelEq.ghosts.eq
ip_tunnel_equality a b =
    first-decides (head_of enum.parts) (drop 1 enum.parts) OfIpTunnel.meaning_of _ (two_bytes ipv4_flags (λ m n e. cc))
    (first-decides (head_of (drop 1 enum.parts)) OfIpTunnel.later (λ c. OfIpTunnel.meaning_of (inr c)) _ (two_bytes sit_flags (λ m n e. cc))
    (choices-decide OfIpTunnel.later (OfIpTunnel.rows ipip).0 _
    ((λ x y. decides_as (λ e. ap ipv6_flags e) (λ e. cc) (ip6_tunnel_flags_equality x.0 y.0)) also number also one ip_equality also
    one ip_equality also number also number also number also number also one ip_protocol_equality also truth also
    one ipv6_equality also one ipv4_equality also number also number also one tunnel_encap_type_equality also
    one tunnel_encap_flags_equality also number also number also truth also number also kept also tt)) second_apart) first_apart
    (enum.as_values a) (enum.as_values b)
