use Rattle.npr_route_values.specs.IpProtocol.{ip_protocol}
use Rattle.npr_route_values.specs.RouteScope.{route_scope}
use Rattle.npr_route_values.specs.RouteType.{route_type}
use Rattle.npr_route_values.specs.RoutePreference.{route_preference}
use Rattle.npr_route_values.specs.TtlPropagation.{ttl_propagation}
use Rattle.npr_route_values.specs.RouteFlags.{route_flags, next_hop_flags}
use Rattle.npr_route_values.specs.RouteCacheInfo.{route_cache_info}
use Rattle.npr_route_values.specs.RouteMfcStats.{route_mfc_stats}
use Rattle.npr_route_values.proofs.laws.law_layouts.Goals as goal

pub returns : goal.returns
returns c = record {
  ip_protocol = ip_protocol.decode-encode;
  route_scope = route_scope.decode-encode;
  route_type = route_type.decode-encode;
  route_preference = route_preference.decode-encode;
  ttl_propagation = ttl_propagation.decode-encode;
  route_flags = route_flags.decode-encode;
  next_hop_flags = next_hop_flags.decode-encode;
  cache_info = route_cache_info.decode-encode;
  mfc_stats = route_mfc_stats.decode-encode;
}
