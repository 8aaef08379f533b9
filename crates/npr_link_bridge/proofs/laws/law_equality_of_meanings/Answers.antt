use Rattle.npr_link_bridge.proofs.EqualityLaws.{querier_equality, bridge_equality, bridge_port_equality, vlan_tunnel_equality}
use Rattle.npr_link_bridge.proofs.EqualityLaws.{mst_entry_equality, mst_equality, af_spec_bridge_equality}
use Rattle.npr_link_bridge.proofs.laws.law_equality_of_meanings.Goals as goal

pub returns : goal.returns
returns c = record {
  querier = querier_equality;
  bridge = bridge_equality;
  bridge_port = bridge_port_equality;
  vlan_tunnel = vlan_tunnel_equality;
  mst_entry = mst_entry_equality;
  mst = mst_equality;
  af_spec = af_spec_bridge_equality;
}
