use Rattle.std.proofs.Common.{◌≡◌, codes, map, take, Some, Ok}
use Rattle.std.specs.Fmt.{DisplaysOnOk}
use Rattle.npr_base.specs.Text.{joined_by}
use Rattle.npr_route_values.specs.RouteFlags.{names_set}
use Rattle.npr_route_values.proofs.Names.{any_of}
use Rattle.npr_route_values.proofs.flags.write_names.Given as goal

abbrev pub invariant-loop-is_set : goal.invariant-loop-is_set
invariant-loop-is_set g l = record {
  written : DisplaysOnOk g.W.Write.write_str_gives l.fn.f (Ok tt) (joined_by (codes " ") Some (names_set (map (λ n. (n.0, n.1.now)) (take l.is_set-index l.names)))) l.f;
  started : l.started ≡ any_of (names_set (map (λ n. (n.0, n.1.now)) (take l.is_set-index l.names)));
}
