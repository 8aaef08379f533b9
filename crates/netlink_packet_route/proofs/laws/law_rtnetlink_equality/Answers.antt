use Rattle.std.proofs.Common.{refl}
use Rattle.npr_base.specs.EnumTable.{◌also◌}
use Rattle.npr_base.specs.Message.{view}
use Rattle.npr_base.proofs.MeaningLaws.{enum_meaning, one_meaning}
use Rattle.npr_address.specs.Message.{addresses}
use Rattle.npr_link.specs.Message.{links}
use Rattle.npr_neighbour.specs.Message.{neighbours}
use Rattle.npr_nexthop.specs.Message.{next_hops}
use Rattle.npr_route.specs.Message.{routes}
use Rattle.npr_rule.specs.Message.{rules}
use Rattle.npr_address.specs.AddressLabelMessage.{address_labels}
use Rattle.npr_neighbour.specs.NeighbourTableMessage.{neighbour_tables}
use Rattle.npr_namespace.specs.NetconfMessage.{netconfs}
use Rattle.npr_namespace.specs.NsidMessage.{nsids}
use Rattle.npr_address.specs.PrefixMessage.{prefixes}
use Rattle.npr_stats.specs.Message.{stats_messages}
use Rattle.npr_tc.specs.ActionMessage.{messages as action_messages}
use Rattle.npr_tc.specs.Message.{messages as tc_messages}
use Rattle.netlink_packet_route.specs.RouteNetlinkMessage.{message, other_of, meaning_of}
use Rattle.netlink_packet_route.specs.contracts.message.RouteNetlinkMessage.{enum}
use Rattle.netlink_packet_route.specs.declared.message_type.Action.TheVariants.{New, Del, Get}
use Rattle.netlink_packet_route.specs.declared.message_type.MessageType.TheVariants.{Of, SetLink, NewPrefix, NewStats}
use Rattle.netlink_packet_route.specs.declared.message_type.MessageType.TheVariants.{NewNeighbourTable, GetNeighbourTable, SetNeighbourTable}
use Rattle.netlink_packet_route.specs.declared.message_type.Subject.TheVariants.{Link, Address, Route, Neighbour, Rule, AddressLabel, Netconf, Nsid}
use Rattle.netlink_packet_route.specs.declared.message_type.Subject.TheVariants.{NextHop, LinkProp, NextHopBucket}
use Rattle.netlink_packet_route.specs.declared.message_type.Subject.TheVariants.{QueueDiscipline, TrafficClass, TrafficFilter, TrafficChain}
use Rattle.netlink_packet_route.specs.declared.message_type.Subject.TheVariants.{TrafficAction}
use Rattle.netlink_packet_route.proofs.EqualityLaws.{order, action_order, message_one, other_by, other_one, other_equality}
use Rattle.netlink_packet_route.proofs.laws.law_rtnetlink_equality.Goals as goal

pub returns-clause-other : goal.returns-clause-other
returns-clause-other c = other_equality

pub returns-clause-inner : goal.returns-clause-inner
unfolding order action_order
returns-clause-inner c =
    enum_meaning order enum meaning_of _ (λ t.
    (λ x. refl, one_meaning (view links) (message (Of Link New)) c.law_equality_of_meanings.ensures.message (message_one (Of Link New))) also
    (λ x. refl, one_meaning (view links) (message (Of Link Del)) c.law_equality_of_meanings.ensures.message (message_one (Of Link Del))) also
    (λ x. refl, one_meaning (view links) (message (Of Link Get)) c.law_equality_of_meanings.ensures.message (message_one (Of Link Get))) also
    (λ x. refl, one_meaning (view links) (message SetLink) c.law_equality_of_meanings.ensures.message (message_one SetLink)) also
    (λ x. refl, one_meaning (view addresses) (message (Of Address New)) c.law_equality.ensures.message (message_one (Of Address New))) also
    (λ x. refl, one_meaning (view addresses) (message (Of Address Del)) c.law_equality.ensures.message (message_one (Of Address Del))) also
    (λ x. refl, one_meaning (view addresses) (message (Of Address Get)) c.law_equality.ensures.message (message_one (Of Address Get))) also
    (λ x. refl, one_meaning (view routes) (message (Of Route New)) c.law_equality-2.ensures.message (message_one (Of Route New))) also
    (λ x. refl, one_meaning (view routes) (message (Of Route Del)) c.law_equality-2.ensures.message (message_one (Of Route Del))) also
    (λ x. refl, one_meaning (view routes) (message (Of Route Get)) c.law_equality-2.ensures.message (message_one (Of Route Get))) also
    (λ x. refl, one_meaning (view neighbours) (message (Of Neighbour New)) c.law_equality-4.ensures.message (message_one (Of Neighbour New))) also
    (λ x. refl, one_meaning (view neighbours) (message (Of Neighbour Del)) c.law_equality-4.ensures.message (message_one (Of Neighbour Del))) also
    (λ x. refl, one_meaning (view neighbours) (message (Of Neighbour Get)) c.law_equality-4.ensures.message (message_one (Of Neighbour Get))) also
    (λ x. refl, one_meaning (view rules) (message (Of Rule New)) c.law_equality-3.ensures.message (message_one (Of Rule New))) also
    (λ x. refl, one_meaning (view rules) (message (Of Rule Del)) c.law_equality-3.ensures.message (message_one (Of Rule Del))) also
    (λ x. refl, one_meaning (view rules) (message (Of Rule Get)) c.law_equality-3.ensures.message (message_one (Of Rule Get))) also
    (λ x. refl, one_meaning (view tc_messages) (message (Of QueueDiscipline New)) c.law_equality_of_meanings-4.ensures.message (message_one (Of QueueDiscipline New))) also
    (λ x. refl, one_meaning (view tc_messages) (message (Of QueueDiscipline Del)) c.law_equality_of_meanings-4.ensures.message (message_one (Of QueueDiscipline Del))) also
    (λ x. refl, one_meaning (view tc_messages) (message (Of QueueDiscipline Get)) c.law_equality_of_meanings-4.ensures.message (message_one (Of QueueDiscipline Get))) also
    (λ x. refl, one_meaning (view tc_messages) (message (Of TrafficClass New)) c.law_equality_of_meanings-4.ensures.message (message_one (Of TrafficClass New))) also
    (λ x. refl, one_meaning (view tc_messages) (message (Of TrafficClass Del)) c.law_equality_of_meanings-4.ensures.message (message_one (Of TrafficClass Del))) also
    (λ x. refl, one_meaning (view tc_messages) (message (Of TrafficClass Get)) c.law_equality_of_meanings-4.ensures.message (message_one (Of TrafficClass Get))) also
    (λ x. refl, one_meaning (view tc_messages) (message (Of TrafficFilter New)) c.law_equality_of_meanings-4.ensures.message (message_one (Of TrafficFilter New))) also
    (λ x. refl, one_meaning (view tc_messages) (message (Of TrafficFilter Del)) c.law_equality_of_meanings-4.ensures.message (message_one (Of TrafficFilter Del))) also
    (λ x. refl, one_meaning (view tc_messages) (message (Of TrafficFilter Get)) c.law_equality_of_meanings-4.ensures.message (message_one (Of TrafficFilter Get))) also
    (λ x. refl, one_meaning (view action_messages) (message (Of TrafficAction New)) c.law_equality_of_meanings-4.ensures.action_message (message_one (Of TrafficAction New))) also
    (λ x. refl, one_meaning (view action_messages) (message (Of TrafficAction Del)) c.law_equality_of_meanings-4.ensures.action_message (message_one (Of TrafficAction Del))) also
    (λ x. refl, one_meaning (view action_messages) (message (Of TrafficAction Get)) c.law_equality_of_meanings-4.ensures.action_message (message_one (Of TrafficAction Get))) also
    (λ x. refl, one_meaning (view prefixes) (message NewPrefix) c.law_label_equality_of_meanings.ensures.prefix_message (message_one NewPrefix)) also
    (λ x. refl, one_meaning (view neighbour_tables) (message NewNeighbourTable) c.law_table_equality_of_meanings.ensures.neighbour_table_message (message_one NewNeighbourTable)) also
    (λ x. refl, one_meaning (view neighbour_tables) (message GetNeighbourTable) c.law_table_equality_of_meanings.ensures.neighbour_table_message (message_one GetNeighbourTable)) also
    (λ x. refl, one_meaning (view neighbour_tables) (message SetNeighbourTable) c.law_table_equality_of_meanings.ensures.neighbour_table_message (message_one SetNeighbourTable)) also
    (λ x. refl, one_meaning (view address_labels) (message (Of AddressLabel New)) c.law_label_equality_of_meanings.ensures.address_label_message (message_one (Of AddressLabel New))) also
    (λ x. refl, one_meaning (view address_labels) (message (Of AddressLabel Del)) c.law_label_equality_of_meanings.ensures.address_label_message (message_one (Of AddressLabel Del))) also
    (λ x. refl, one_meaning (view address_labels) (message (Of AddressLabel Get)) c.law_label_equality_of_meanings.ensures.address_label_message (message_one (Of AddressLabel Get))) also
    (λ x. refl, one_meaning (view netconfs) (message (Of Netconf New)) c.law_equality_of_meanings-2.ensures.netconf_message (message_one (Of Netconf New))) also
    (λ x. refl, one_meaning (view netconfs) (message (Of Netconf Del)) c.law_equality_of_meanings-2.ensures.netconf_message (message_one (Of Netconf Del))) also
    (λ x. refl, one_meaning (view netconfs) (message (Of Netconf Get)) c.law_equality_of_meanings-2.ensures.netconf_message (message_one (Of Netconf Get))) also
    (λ x. refl, one_meaning (view nsids) (message (Of Nsid New)) c.law_equality_of_meanings-2.ensures.nsid_message (message_one (Of Nsid New))) also
    (λ x. refl, one_meaning (view nsids) (message (Of Nsid Del)) c.law_equality_of_meanings-2.ensures.nsid_message (message_one (Of Nsid Del))) also
    (λ x. refl, one_meaning (view nsids) (message (Of Nsid Get)) c.law_equality_of_meanings-2.ensures.nsid_message (message_one (Of Nsid Get))) also
    (λ x. refl, one_meaning (view stats_messages) (message NewStats) c.law_equality_of_meanings-5.ensures.message (message_one NewStats)) also
    (λ x. refl, one_meaning (view tc_messages) (message (Of TrafficChain New)) c.law_equality_of_meanings-4.ensures.message (message_one (Of TrafficChain New))) also
    (λ x. refl, one_meaning (view tc_messages) (message (Of TrafficChain Del)) c.law_equality_of_meanings-4.ensures.message (message_one (Of TrafficChain Del))) also
    (λ x. refl, one_meaning (view tc_messages) (message (Of TrafficChain Get)) c.law_equality_of_meanings-4.ensures.message (message_one (Of TrafficChain Get))) also
    (λ x. refl, one_meaning (view next_hops) (message (Of NextHop New)) c.law_equality_of_meanings-3.ensures.message (message_one (Of NextHop New))) also
    (λ x. refl, one_meaning (view next_hops) (message (Of NextHop Del)) c.law_equality_of_meanings-3.ensures.message (message_one (Of NextHop Del))) also
    (λ x. refl, one_meaning (view next_hops) (message (Of NextHop Get)) c.law_equality_of_meanings-3.ensures.message (message_one (Of NextHop Get))) also
    (λ x. refl, one_meaning (view links) (message (Of LinkProp New)) c.law_equality_of_meanings.ensures.message (message_one (Of LinkProp New))) also
    (λ x. refl, one_meaning (view links) (message (Of LinkProp Del)) c.law_equality_of_meanings.ensures.message (message_one (Of LinkProp Del))) also
    (λ x. refl, one_meaning (view links) (message (Of LinkProp Get)) c.law_equality_of_meanings.ensures.message (message_one (Of LinkProp Get))) also
    (λ x. refl, one_meaning (view next_hops) (message (Of NextHopBucket New)) c.law_equality_of_meanings-3.ensures.message (message_one (Of NextHopBucket New))) also
    (λ x. refl, one_meaning (view next_hops) (message (Of NextHopBucket Del)) c.law_equality_of_meanings-3.ensures.message (message_one (Of NextHopBucket Del))) also
    (λ x. refl, one_meaning (view next_hops) (message (Of NextHopBucket Get)) c.law_equality_of_meanings-3.ensures.message (message_one (Of NextHopBucket Get))) also
    (λ x. refl, one_meaning other_of other_by other_equality other_one) also tt)

pub returns-clause-message : goal.returns-clause-message
returns-clause-message c = c.law_message_equality.ensures.message (returns-clause-inner c)
