use Rattle.npr_base.proofs.Messages.{message_equality}
use Rattle.npr_link.specs.Message.{links}
use Rattle.npr_link.proofs.ValueEquality.{header_equality}
use Rattle.npr_link.proofs.EqualityLaws.{inet_equality, inet6_equality, af_spec_equality, xdp_equality, prop_equality, reason_equality}
use Rattle.npr_link.proofs.EqualityLaws.{qos_equality, vlan_equality, vrf_equality}
use Rattle.npr_link.proofs.EqualityLaws.{peer_attribute_equality, peer_equality, veth_equality, netkit_equality, kind_equality, port_kind_equality, data_equality}
use Rattle.npr_link.proofs.EqualityLaws.{port_data_equality, info_equality, attribute_equality}
use Rattle.npr_link.proofs.EqualityLaws.{mctp_equality}
use Rattle.npr_link.proofs.EqualityLaws.{pin_equality}
use Rattle.npr_link.proofs.laws.law_equality_of_meanings.Goals as goal

pub returns : goal.returns
returns c = record {
  inet = inet_equality;
  inet6 = inet6_equality;
  af_spec = af_spec_equality;
  xdp = xdp_equality;
  prop = prop_equality;
  reason = reason_equality;
  qos = qos_equality;
  vlan = vlan_equality;
  vrf = vrf_equality;
  peer_attribute = peer_attribute_equality;
  peer = peer_equality;
  veth = veth_equality;
  netkit = netkit_equality;
  kind = kind_equality;
  port_kind = port_kind_equality;
  info_data = data_equality;
  port_data = port_data_equality;
  info = info_equality;
  attribute = attribute_equality;
  message = message_equality links header_equality attribute_equality;
  mctp = mctp_equality;
  pin = pin_equality;
}
