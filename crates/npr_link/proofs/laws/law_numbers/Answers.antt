use Rattle.npr_link.specs.AddressMode.{address_modes}
use Rattle.npr_link.specs.LayerType.{layer_types}
use Rattle.npr_link.specs.LinkEvent.{link_events}
use Rattle.npr_link.specs.LinkMode.{link_modes}
use Rattle.npr_link.specs.State.{states}
use Rattle.npr_link.specs.XdpAttached.{attachments}
use Rattle.npr_link.specs.NetkitMode.{netkit_modes}
use Rattle.npr_link.specs.NetkitPolicy.{netkit_policies}
use Rattle.npr_link.specs.NetkitScrub.{netkit_scrubs}
use Rattle.npr_link.proofs.laws.law_numbers.Goals as goal

pub returns : goal.returns
returns c = record {
  address_modes = address_modes.back;
  layer_types = layer_types.back;
  link_events = link_events.back;
  netkit_modes = netkit_modes.back;
  netkit_policies = netkit_policies.back;
  netkit_scrubs = netkit_scrubs.back;
  link_modes = link_modes.back;
  states = states.back;
  attachments = attachments.back;
}
