use Rattle.npr_link_tunnels.proofs.EqualityLaws.{geneve_equality, gre_equality, gre6_equality, ip_tunnel_equality, vti_equality, vxlan_equality, xfrm_equality}
use Rattle.npr_link_tunnels.proofs.EqualityLaws.{gtp_equality}
use Rattle.npr_link_tunnels.proofs.EqualityLaws.{ovpn_equality}
use Rattle.npr_link_tunnels.proofs.laws.law_equality_of_meanings.Goals as goal

pub returns : goal.returns
returns c = record {
  geneve = geneve_equality;
  gre = gre_equality;
  gre6 = gre6_equality;
  ip_tunnel = ip_tunnel_equality;
  vti = vti_equality;
  vxlan = vxlan_equality;
  xfrm = xfrm_equality;
  gtp = gtp_equality;
  ovpn = ovpn_equality;
}
