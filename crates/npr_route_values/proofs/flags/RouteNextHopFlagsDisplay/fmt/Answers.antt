use Rattle.std.proofs.Common.{codes, Some, ◌∷◌, []}
use Rattle.std.proofs.Output.{displays_on_ok_of_eq}
use Rattle.npr_base.specs.Text.{joined_by}
use Rattle.npr_route_values.specs.RouteFlags.{names_set}
use Rattle.npr_route_values.proofs.flags.RouteNextHopFlagsDisplay.fmt.Goals as goal

pub returns-clause-writes : goal.returns-clause-writes
returns-clause-writes g c =
    displays_on_ok_of_eq g.W.Write.write_str_gives c.args.f.now c.write_names.new.f c.write_names.result _ _
    (λ i. joined_by (codes " ") Some (names_set (
    (c.contains.ensures tt i, codes "dead") ∷ (c.contains-2.ensures tt i, codes "onlink") ∷ (c.contains-3.ensures tt i, codes "pervasive")
    ∷ (c.contains-4.ensures tt i, codes "offload") ∷ (c.contains-5.ensures tt i, codes "linkdown") ∷ (c.contains-6.ensures tt i, codes "unresolved")
    ∷ (c.contains-7.ensures tt i, codes "trap") ∷ []
    )))
    c.write_names.ensures
