use Rattle.std.proofs.Common.{rules}
use Rattle.npr_route_values.proofs.EqualityLaws.{ip_protocol_equality, label_equality, realm_equality, cache_info_equality, mfc_stats_equality}
use Rattle.npr_route_values.proofs.EqualityLaws.{route_protocol_equality, route_scope_equality, route_type_equality, route_preference_equality}
use Rattle.npr_route_values.proofs.EqualityLaws.{ttl_propagation_equality, route_flags_equality, address_equality, via_equality}
use Rattle.npr_route_values.proofs.laws.law_equality.Goals as goal

pub returns : goal.returns
returns c = record {
  ip_protocol = ip_protocol_equality;
  mpls_label = label_equality;
  route_realm = realm_equality;
  route_protocol = route_protocol_equality;
  route_scope = route_scope_equality;
  route_type = route_type_equality;
  route_preference = route_preference_equality;
  ttl_propagation = ttl_propagation_equality;
  route_flags = route_flags_equality;
  next_hop_flags = search rules;
  cache_info = cache_info_equality;
  cache_info_buffer = cache_info_equality;
  mfc_stats = mfc_stats_equality;
  mfc_stats_buffer = mfc_stats_equality;
  via_buffer = search rules;
  address = address_equality;
  via = via_equality;
}
