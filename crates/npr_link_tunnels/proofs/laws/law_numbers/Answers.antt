use Rattle.npr_link_tunnels.specs.GeneveDf.{geneve_dfs}
use Rattle.npr_link_tunnels.specs.GreEncapType.{gre_encap_types}
use Rattle.npr_link_tunnels.specs.TunnelEncapType.{tunnel_encap_types}
use Rattle.npr_link_tunnels.specs.OvpnMode.{ovpn_modes}
use Rattle.npr_link_tunnels.proofs.laws.law_numbers.Goals as goal

pub returns : goal.returns
returns c = record {
  geneve_dfs = geneve_dfs.back;
  gre_encap_types = gre_encap_types.back;
  tunnel_encap_types = tunnel_encap_types.back;
  ovpn_modes = ovpn_modes.back;
}
