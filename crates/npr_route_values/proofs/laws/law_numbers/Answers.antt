use Rattle.npr_route_values.specs.IpProtocol.{ip_protocols}
use Rattle.npr_route_values.specs.RouteProtocol.{route_protocols}
use Rattle.npr_route_values.specs.RouteScope.{route_scopes}
use Rattle.npr_route_values.specs.RouteType.{route_types}
use Rattle.npr_route_values.specs.RoutePreference.{route_preferences}
use Rattle.npr_route_values.specs.TtlPropagation.{ttl_propagations}
use Rattle.npr_route_values.proofs.laws.law_numbers.Goals as goal

pub returns : goal.returns
returns c = record {
  ip_protocol = ip_protocols.back;
  route_protocol = route_protocols.back;
  route_scope = route_scopes.back;
  route_type = route_types.back;
  route_preference = route_preferences.back;
  ttl_propagation = ttl_propagations.back;
}
