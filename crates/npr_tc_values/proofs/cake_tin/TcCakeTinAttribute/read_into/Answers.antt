use Rattle.std.proofs.lemmas.Result.{err_from_is_err_and}
use Rattle.npr_tc_values.proofs.cake_tin.TcCakeTinAttribute.read_into.Goals as goal

pub returns-in_err-stats-clause-refused : goal.returns-in_err-stats-clause-refused
returns-in_err-stats-clause-refused g c =
    let p = err_from_is_err_and c.from_residual.result c.from_residual.ensures.1 in
    let wrong = rw c.value.ensures at c.in_err-stats.ensures.refused in
    rw (p.1, p.2) (λ other. wrong other)

pub returns-clause-ok : goal.returns-clause-ok
returns-clause-ok g c =
    let reads = rw c.value.ensures at c.in_ok-stats.ensures.ok in
    (record { tab = c.kind.result; stats = c.in_ok-stats.stats }, c.put.ensures, (c.kind.ensures, reads))

pub returns-in_err-stats-clause-exact : goal.returns-in_err-stats-clause-exact
returns-in_err-stats-clause-exact g c =
    let p = err_from_is_err_and c.from_residual.result c.from_residual.ensures.1 in
    let looks = rw c.value.ensures at c.in_err-stats.ensures.exact in
    rw (p.1, p.2) (λ answered. looks answered)
