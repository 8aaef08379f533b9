-- Routes that callers build.
use Rattle.std.specs.Prelude.{[], ◌∷◌}
use Rattle.netlink_packet_route.specs.Messages.{View}
use Rattle.netlink_packet_route.specs.RouteAttribute.{multi_path}
use Rattle.netlink_packet_route.specs.RouteAttributeView.{hops_of}
use Rattle.netlink_packet_route.specs.RouteHeader.{default_header}
use Rattle.netlink_packet_route.specs.RouteMessage.{routes}
use Rattle.netlink_packet_route.specs.RoutePath.{to_destination, hop_through}
use Rattle.netlink_packet_route.specs.declared.AddressFamily.TheVariants.{Inet}
use Rattle.netlink_packet_route.specs.declared.net.IpAddr.TheVariants.{V4}

-- to 203.0.113.0/24 by 192.0.2.1 behind interface 2 and by 192.0.2.2 behind interface 3
abbrev pub two_ways : View routes
two_ways = record {
  header = record default_header { address_family = Inet; destination_prefix_length = 24 };
  attributes =
      to_destination (V4 (203 ∷ 0 ∷ 113 ∷ 0 ∷ []))
      ∷ multi_path (hops_of (hop_through 2 (V4 (192 ∷ 0 ∷ 2 ∷ 1 ∷ [])) ∷ hop_through 3 (V4 (192 ∷ 0 ∷ 2 ∷ 2 ∷ [])) ∷ []))
      ∷ [];
}
