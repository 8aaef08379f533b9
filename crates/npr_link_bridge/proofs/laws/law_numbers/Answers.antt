use Rattle.npr_link_bridge.specs.BridgeFlag.{bridge_flags}
use Rattle.npr_link_bridge.specs.BridgeMode.{bridge_modes}
use Rattle.npr_link_bridge.specs.MulticastRouter.{router_types}
use Rattle.npr_link_bridge.specs.PortState.{port_states}
use Rattle.npr_link_bridge.specs.StpState.{stp_states}
use Rattle.npr_link_bridge.specs.VlanProtocol.{vlan_protocols}
use Rattle.npr_link_bridge.proofs.laws.law_numbers.Goals as goal

pub returns : goal.returns
returns c = record {
  bridge_flags = bridge_flags.back;
  bridge_modes = bridge_modes.back;
  router_types = router_types.back;
  port_states = port_states.back;
  stp_states = stp_states.back;
  vlan_protocols = vlan_protocols.back;
}
