use Rattle.npr_link_tunnels.proofs.ValueEquality.{form_equality, geneve_df_equality, gre_encap_type_equality, tunnel_encap_type_equality, gre_io_flags_equality, gre_encap_flags_equality, tunnel_encap_flags_equality, ip6_tunnel_flags_equality}
use Rattle.npr_link_tunnels.proofs.ValueEquality.{ovpn_mode_equality}
use Rattle.npr_link_tunnels.proofs.laws.law_equality.Goals as goal

pub returns : goal.returns
returns c = record {
  form = form_equality;
  geneve_df = geneve_df_equality;
  gre_encap_type = gre_encap_type_equality;
  tunnel_encap_type = tunnel_encap_type_equality;
  gre_io_flags = gre_io_flags_equality;
  gre_encap_flags = gre_encap_flags_equality;
  tunnel_encap_flags = tunnel_encap_flags_equality;
  ip6_tunnel_flags = ip6_tunnel_flags_equality;
  ovpn_mode = ovpn_mode_equality;
}
