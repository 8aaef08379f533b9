-- of this library
pub mod Canonical
pub mod MessageKind
pub mod MessageTypes
pub mod Messages
pub mod NestLists
pub mod Nests
pub mod Pending
pub mod Readings
pub mod Request
pub mod RouteNetlinkMessage
pub mod Stops
-- all of each library below
pub use Rattle.bitflags.specs as OfFlags
pub use Rattle.npr_base.specs as OfBase
pub use Rattle.netlink_packet_core.specs as OfCore
pub use Rattle.npr_names.specs as OfNames
pub use Rattle.npr_route_values.specs as OfRouteValues
pub use Rattle.npr_srh.specs as OfSrh
pub use Rattle.npr_encapsulation.specs as OfEncapsulation
pub use Rattle.npr_address.specs as OfAddress
pub use Rattle.npr_rule.specs as OfRule
pub use Rattle.npr_neighbour.specs as OfNeighbour
pub use Rattle.npr_link_statistics.specs as OfLinkStatistics
pub use Rattle.npr_link_bridge.specs as OfLinkBridge
pub use Rattle.npr_link_devices.specs as OfLinkDevices
pub use Rattle.npr_link_functions.specs as OfLinkFunctions
pub use Rattle.npr_link_tunnels.specs as OfLinkTunnels
pub use Rattle.npr_link.specs as OfLink
pub use Rattle.npr_route.specs as OfRoute
pub use Rattle.npr_namespace.specs as OfNamespace
pub use Rattle.npr_nexthop.specs as OfNextHop
pub use Rattle.npr_stats.specs as OfStats
pub use Rattle.npr_tc_values.specs as OfTcValues
pub use Rattle.npr_tc_qdiscs.specs as OfTcQdiscs
pub use Rattle.npr_tc_actions.specs as OfTcActions
pub use Rattle.npr_tc_filters.specs as OfTcFilters
pub use Rattle.npr_tc.specs as OfTc
-- and by a name of their own those that contracts of callers speak of
pub use Rattle.npr_base.proofs.AttributesLaws
pub use Rattle.npr_base.proofs.EqualityLaws
pub use Rattle.npr_base.proofs.PlaceLaws
pub use Rattle.npr_base.proofs.ValuesLaws
pub use Rattle.npr_base.specs.AddressFamily
pub use Rattle.npr_base.specs.Attributes
pub use Rattle.npr_base.specs.Beside
pub use Rattle.npr_base.specs.Codec
pub use Rattle.npr_base.specs.Counts
pub use Rattle.npr_base.specs.EnumFamily
pub use Rattle.npr_base.specs.EnumTable
pub use Rattle.npr_base.specs.Equality
pub use Rattle.npr_base.specs.Family
pub use Rattle.npr_base.specs.Fields
pub use Rattle.npr_base.specs.Found
pub use Rattle.npr_base.specs.Framing
pub use Rattle.npr_base.specs.GovernedList
pub use Rattle.npr_base.specs.Ip
pub use Rattle.npr_base.specs.Layout
pub use Rattle.npr_base.specs.LeftOut
pub use Rattle.npr_base.specs.Lists
pub use Rattle.npr_base.specs.Looking
pub use Rattle.npr_base.specs.Looks
pub use Rattle.npr_base.specs.Refusal
pub use Rattle.npr_base.specs.Table
pub use Rattle.npr_base.specs.TableFamily
pub use Rattle.npr_base.specs.Tables
pub use Rattle.npr_base.specs.Text
pub use Rattle.npr_base.specs.Value
pub use Rattle.npr_base.specs.Values
pub use Rattle.npr_base.specs.Walk
pub use Rattle.npr_base.specs.lemmas.Front as FrontLaws
pub use Rattle.npr_base.specs.lemmas.List as ListLaws
pub use Rattle.npr_base.specs.lemmas.LookBounds
pub use Rattle.npr_base.specs.lemmas.Message as MessageLaws
pub use Rattle.netlink_packet_core.specs.Conversation
pub use Rattle.netlink_packet_core.specs.Extended as ErrorAttribute
pub use Rattle.netlink_packet_core.specs.Header as NetlinkHeader
pub use Rattle.netlink_packet_core.specs.Message as NetlinkMessage
pub use Rattle.netlink_packet_core.specs.Payload as NetlinkPayload
pub use Rattle.npr_names.specs.Names as AttributeNames
pub use Rattle.npr_route_values.specs.IpProtocol
pub use Rattle.npr_route_values.specs.RouteProtocol
pub use Rattle.npr_route_values.specs.RouteType
pub use Rattle.npr_srh.specs.Ioam6Tunnel
pub use Rattle.npr_srh.specs.RplTunnel
pub use Rattle.npr_srh.specs.Seg6LocalTunnel
pub use Rattle.npr_srh.specs.Seg6Tunnel
pub use Rattle.npr_encapsulation.specs.EncapType
pub use Rattle.npr_encapsulation.specs.Encapsulation
pub use Rattle.npr_encapsulation.specs.ErspanOptions
pub use Rattle.npr_encapsulation.specs.Geneve
pub use Rattle.npr_encapsulation.specs.IpTunnel
pub use Rattle.npr_encapsulation.specs.MplsTunnel
pub use Rattle.npr_encapsulation.specs.TunnelOptions
pub use Rattle.npr_encapsulation.specs.VxlanOptions
pub use Rattle.npr_encapsulation.specs.XfrmTunnel
pub use Rattle.npr_address.specs.AddressFlags
pub use Rattle.npr_address.specs.AddressLabelAttribute
pub use Rattle.npr_address.specs.Attribute as AddressAttribute
pub use Rattle.npr_address.specs.Message as AddressMessage
pub use Rattle.npr_address.specs.PrefixAttribute
pub use Rattle.npr_address.specs.PrefixHeader
pub use Rattle.npr_rule.specs.Attribute as RuleAttribute
pub use Rattle.npr_rule.specs.Flags as RuleFlags
pub use Rattle.npr_neighbour.specs.Attribute as NeighbourAttribute
pub use Rattle.npr_neighbour.specs.NeighbourTableAttribute
pub use Rattle.npr_neighbour.specs.NeighbourTableParameter
pub use Rattle.npr_link_bridge.specs.AfSpecBridge
pub use Rattle.npr_link.specs.ExtentMask as LinkExtentMask
pub use Rattle.npr_link.specs.Header as LinkHeader
pub use Rattle.npr_link.specs.Info
pub use Rattle.npr_link.specs.InfoData
pub use Rattle.npr_link.specs.InfoKind
pub use Rattle.npr_link.specs.Message as LinkMessage
pub use Rattle.npr_link.specs.Peer as LinkPeer
pub use Rattle.npr_route.specs.Attribute as RouteAttribute
pub use Rattle.npr_route.specs.AttributeView as RouteAttributeView
pub use Rattle.npr_route.specs.Governing
pub use Rattle.npr_route.specs.Header as RouteHeader
pub use Rattle.npr_route.specs.Message as RouteMessage
pub use Rattle.npr_route.specs.NextHopHeader
pub use Rattle.npr_route.specs.Path as RoutePath
pub use Rattle.npr_namespace.specs.NetconfAttribute
pub use Rattle.npr_namespace.specs.NsidAttribute
pub use Rattle.npr_stats.specs.Attribute as StatsAttribute
pub use Rattle.npr_tc_values.specs.Form as TcForm
pub use Rattle.npr_tc_values.specs.FqCodelXstats as TcFqCodelXstats
pub use Rattle.npr_tc_values.specs.Handle as TcHandle
pub use Rattle.npr_tc_actions.specs.Action as TcAction
pub use Rattle.npr_tc_actions.specs.ActionOption as TcActionOption
pub use Rattle.npr_tc_actions.specs.Form as TcActionForm
