use Rattle.std.proofs.Common.{map, refl}
use Rattle.std.proofs.lemmas.Result.{err_from_is_err_and}
use Rattle.npr_route.specs.Metric.{family as metric_family}
use Rattle.npr_route.specs.FlatAttribute as Flat
use Rattle.npr_route.proofs.Views.{view_metrics}
use Rattle.npr_route.proofs.rows.put_metrics.Goals as goal

pub returns-in_err-metrics-clause-refused : goal.returns-in_err-metrics-clause-refused
returns-in_err-metrics-clause-refused c =
    let p = err_from_is_err_and c.from_residual.result c.from_residual.ensures.1 in
    rw (p.1, p.2) c.in_err-metrics.ensures.refused

pub returns-clause-ok : goal.returns-clause-ok
returns-clause-ok c =
    let v = c.in_ok-metrics.metrics in
    let xs = map metric_family.meaning v.items in
    rw c.put.ensures (Flat.metrics xs, (xs, c.in_ok-metrics.ensures.ok, refl), view_metrics v)

pub returns-in_err-metrics-clause-exact : goal.returns-in_err-metrics-clause-exact
returns-in_err-metrics-clause-exact c =
    let p = err_from_is_err_and c.from_residual.result c.from_residual.ensures.1 in
    rw (p.1, p.2) c.in_err-metrics.ensures.exact
