use Rattle.std.proofs.Common.{map, refl}
use Rattle.std.proofs.lemmas.Result.{err_from_is_err_and}
use Rattle.npr_encapsulation.specs.Encapsulation.{meaning_of}
use Rattle.npr_route.specs.FlatAttribute as Flat
use Rattle.npr_route.proofs.Views.{view_encapsulation}
use Rattle.npr_route.proofs.rows.put_encapsulation.Goals as goal

pub returns-in_err-members-clause-refused : goal.returns-in_err-members-clause-refused
returns-in_err-members-clause-refused c =
    let p = err_from_is_err_and c.from_residual.result c.from_residual.ensures.1 in
    rw (p.1, p.2) c.in_err-members.ensures.refused

pub returns-clause-ok : goal.returns-clause-ok
returns-clause-ok c =
    let v = c.in_ok-members.members in
    let xs = map meaning_of v.items in
    rw c.put.ensures (Flat.encap xs, (xs, c.in_ok-members.ensures.ok, refl), view_encapsulation v)

pub returns-in_err-members-clause-exact : goal.returns-in_err-members-clause-exact
returns-in_err-members-clause-exact c =
    let p = err_from_is_err_and c.from_residual.result c.from_residual.ensures.1 in
    rw (p.1, p.2) c.in_err-members.ensures.exact
