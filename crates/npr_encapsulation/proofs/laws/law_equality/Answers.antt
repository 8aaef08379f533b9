use Rattle.std.proofs.Common.{rules}
use Rattle.npr_encapsulation.proofs.EqualityLaws.{encap_type_equality, geneve_equality, vxlan_equality, erspan_equality, tunnel_option_equality}
use Rattle.npr_encapsulation.proofs.EqualityLaws.{mpls_equality, ip_equality, ip6_equality, xfrm_equality, encap_equality}
use Rattle.npr_encapsulation.proofs.laws.law_equality.Goals as goal

pub returns : goal.returns
returns c = record {
  encap_type = encap_type_equality;
  ip_flags = search rules;
  ip6_flags = search rules;
  geneve = geneve_equality;
  vxlan = vxlan_equality;
  erspan = erspan_equality;
  tunnel_option = tunnel_option_equality;
  mpls = mpls_equality;
  ip = ip_equality;
  ip6 = ip6_equality;
  xfrm = xfrm_equality;
  encap = encap_equality;
}
