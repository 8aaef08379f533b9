-- The looks that reading the list of a route message takes.
use Rattle.std.proofs.Common.{ℕ, List}
use Rattle.npr_base.specs.Looks.{Looking}
use Rattle.npr_route.specs.RouteList.{Under, RouteListTakes}
use Rattle.npr_route.specs.lemmas.RouteList.{route-list-looks-one, route-list-looks-add}

abbrev pub route_list_looking : Under → Looking (List ℕ)
route_list_looking under = record {
  Takes = RouteListTakes under;
  one = route-list-looks-one under;
  adds = route-list-looks-add under;
}
