use Rattle.npr_base.specs.Message.{view}
use Rattle.npr_address.specs.Message.{addresses}
use Rattle.npr_link.specs.Message.{links}
use Rattle.npr_neighbour.specs.Message.{neighbours}
use Rattle.npr_nexthop.specs.Message.{next_hops}
use Rattle.npr_route.specs.Message.{routes}
use Rattle.npr_rule.specs.Message.{rules}
use Rattle.npr_address.specs.AddressLabelMessage.{address_labels}
use Rattle.npr_namespace.specs.NetconfMessage.{netconfs}
use Rattle.npr_namespace.specs.NsidMessage.{nsids}
use Rattle.npr_tc.specs.ActionMessage.{messages as action_messages}
use Rattle.npr_tc.specs.Message.{messages as tc_messages}
use Rattle.netlink_packet_route.proofs.message.read_on.Goals as goal

pub returns-in_ok-parse-in-Link-clause-ok : goal.returns-in_ok-parse-in-Link-clause-ok
returns-in_ok-parse-in-Link-clause-ok c =
    let read = c.in_ok-parse-in-Link in
    rw c.in-Link.is (view links read.field-0, read.ensures.ok, c.under.ensures)

pub returns-in_ok-parse-in-Address-clause-ok : goal.returns-in_ok-parse-in-Address-clause-ok
returns-in_ok-parse-in-Address-clause-ok c =
    let read = c.in_ok-parse-in-Address in
    rw c.in-Address.is (view addresses read.field-0, read.ensures.ok, c.under-in-Address.ensures)

pub returns-in_ok-parse-in-Route-clause-ok : goal.returns-in_ok-parse-in-Route-clause-ok
returns-in_ok-parse-in-Route-clause-ok c =
    let read = c.in_ok-parse-in-Route in
    rw c.in-Route.is (view routes read.field-0, read.ensures.ok, c.under-in-Route.ensures)

pub returns-in_ok-parse-in-Neighbour-clause-ok : goal.returns-in_ok-parse-in-Neighbour-clause-ok
returns-in_ok-parse-in-Neighbour-clause-ok c =
    let read = c.in_ok-parse-in-Neighbour in
    rw c.in-Neighbour.is (view neighbours read.field-0, read.ensures.ok, c.under-in-Neighbour.ensures)

pub returns-in_ok-parse-in-Rule-clause-ok : goal.returns-in_ok-parse-in-Rule-clause-ok
returns-in_ok-parse-in-Rule-clause-ok c =
    let read = c.in_ok-parse-in-Rule in
    rw c.in-Rule.is (view rules read.field-0, read.ensures.ok, c.under-in-Rule.ensures)

pub returns-in_ok-parse-in-AddressLabel-clause-ok : goal.returns-in_ok-parse-in-AddressLabel-clause-ok
returns-in_ok-parse-in-AddressLabel-clause-ok c =
    let read = c.in_ok-parse-in-AddressLabel in
    rw c.in-AddressLabel.is (view address_labels read.field-0, read.ensures.ok, c.under-in-AddressLabel.ensures)

pub returns-in_ok-parse-in-Netconf-clause-ok : goal.returns-in_ok-parse-in-Netconf-clause-ok
returns-in_ok-parse-in-Netconf-clause-ok c =
    let read = c.in_ok-parse-in-Netconf in
    rw c.in-Netconf.is (view netconfs read.field-0, read.ensures.ok, c.under-in-Netconf.ensures)

pub returns-in_ok-parse-in-Nsid-clause-ok : goal.returns-in_ok-parse-in-Nsid-clause-ok
returns-in_ok-parse-in-Nsid-clause-ok c =
    let read = c.in_ok-parse-in-Nsid in
    rw c.in-Nsid.is (view nsids read.field-0, read.ensures.ok, c.under-in-Nsid.ensures)

pub returns-in_ok-parse-in-NextHop-clause-ok : goal.returns-in_ok-parse-in-NextHop-clause-ok
returns-in_ok-parse-in-NextHop-clause-ok c =
    let read = c.in_ok-parse-in-NextHop in
    rw c.in-NextHop.is (view next_hops read.field-0, read.ensures.ok, c.under-in-NextHop.ensures)

pub returns-in_ok-parse-in-LinkProp-clause-ok : goal.returns-in_ok-parse-in-LinkProp-clause-ok
returns-in_ok-parse-in-LinkProp-clause-ok c =
    let read = c.in_ok-parse-in-LinkProp in
    rw c.in-LinkProp.is (view links read.field-0, read.ensures.ok, c.on_properties.ensures)

pub returns-in_ok-parse-in-NextHopBucket-clause-ok : goal.returns-in_ok-parse-in-NextHopBucket-clause-ok
returns-in_ok-parse-in-NextHopBucket-clause-ok c =
    let read = c.in_ok-parse-in-NextHopBucket in
    rw c.in-NextHopBucket.is (view next_hops read.field-0, read.ensures.ok, c.on_bucket.ensures)

pub returns-in_ok-parse-in-QueueDiscipline-clause-ok : goal.returns-in_ok-parse-in-QueueDiscipline-clause-ok
returns-in_ok-parse-in-QueueDiscipline-clause-ok c =
    let read = c.in_ok-parse-in-QueueDiscipline in
    rw c.in-QueueDiscipline.is (view tc_messages read.field-0, read.ensures.ok, c.under-in-QueueDiscipline.ensures)

pub returns-in_ok-parse-in-TrafficClass-clause-ok : goal.returns-in_ok-parse-in-TrafficClass-clause-ok
returns-in_ok-parse-in-TrafficClass-clause-ok c =
    let read = c.in_ok-parse-in-TrafficClass in
    rw c.in-TrafficClass.is (view tc_messages read.field-0, read.ensures.ok, c.on_class.ensures)

pub returns-in_ok-parse-in-TrafficFilter-clause-ok : goal.returns-in_ok-parse-in-TrafficFilter-clause-ok
returns-in_ok-parse-in-TrafficFilter-clause-ok c =
    let read = c.in_ok-parse-in-TrafficFilter in
    rw c.in-TrafficFilter.is (view tc_messages read.field-0, read.ensures.ok, c.on_filter.ensures)

pub returns-in_ok-parse-in-TrafficChain-clause-ok : goal.returns-in_ok-parse-in-TrafficChain-clause-ok
returns-in_ok-parse-in-TrafficChain-clause-ok c =
    let read = c.in_ok-parse-in-TrafficChain in
    rw c.in-TrafficChain.is (view tc_messages read.field-0, read.ensures.ok, c.on_chain.ensures)

pub returns-in_ok-parse-in-TrafficAction-clause-ok : goal.returns-in_ok-parse-in-TrafficAction-clause-ok
returns-in_ok-parse-in-TrafficAction-clause-ok c =
    let read = c.in_ok-parse-in-TrafficAction in
    rw c.in-TrafficAction.is (view action_messages read.field-0, read.ensures.ok, c.under-in-TrafficAction.ensures)
