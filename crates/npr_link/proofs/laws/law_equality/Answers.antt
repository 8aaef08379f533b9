use Rattle.npr_link.proofs.ValueEquality.{address_mode_equality, layer_type_equality, link_event_equality, link_mode_equality}
use Rattle.npr_link.proofs.ValueEquality.{state_equality, attachment_equality}
use Rattle.npr_link.proofs.ValueEquality.{port_form_equality, flags_equality, extent_mask_equality, inet6_flags_equality}
use Rattle.npr_link.proofs.ValueEquality.{vlan_flags_equality}
use Rattle.npr_link.proofs.ValueEquality.{cache_info_equality, map_equality, header_equality, header_buffer_equality}
use Rattle.npr_link.proofs.ValueEquality.{netkit_mode_equality, netkit_policy_equality, netkit_scrub_equality}
use Rattle.npr_link.proofs.laws.law_equality.Goals as goal

pub returns : goal.returns
returns c = record {
  address_mode = address_mode_equality;
  layer_type = layer_type_equality;
  link_event = link_event_equality;
  netkit_mode = netkit_mode_equality;
  netkit_policy = netkit_policy_equality;
  netkit_scrub = netkit_scrub_equality;
  link_mode = link_mode_equality;
  state = state_equality;
  attachment = attachment_equality;
  port_form = port_form_equality;
  flags = flags_equality;
  extent_mask = extent_mask_equality;
  inet6_flags = inet6_flags_equality;
  vlan_flags = vlan_flags_equality;
  cache_info = cache_info_equality;
  map = map_equality;
  header = header_equality;
  header_buffer = header_buffer_equality;
}
