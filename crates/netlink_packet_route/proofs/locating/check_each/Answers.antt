use Rattle.std.proofs.Common.{◌≡◌, ◌<◌, [], length, ap, arith}
use Rattle.std.proofs.lemmas.Result.{err_from_is_err_and}
use Rattle.npr_base.specs.Framing.{Front, Fault}
use Rattle.npr_base.specs.lemmas.Front.{Front-shrinks}
use Rattle.netlink_packet_route.specs.NestLists.{IsListAt, ListFaultAt}
use Rattle.netlink_packet_route.proofs.CheckLaws.{leads-all, list-more}
use Rattle.netlink_packet_route.proofs.Stopping.{stops-here, stops-in, stops-later}
use Rattle.netlink_packet_route.proofs.locating.check_each.Goals as goal

pub returns-in_err-item-clause-stopped : goal.returns-in_err-item-clause-stopped
returns-in_err-item-clause-stopped c =
    let p = err_from_is_err_and c.from_residual.result c.from_residual.ensures.1 in
    let e = c.in_err-item.field-0.0 in
    let walk = c.loop-next.walk in
    let past = c.loop-next.invariant in
    let step : (0 < length walk) × Fault walk e × (c.next.new.self ≡ []) = rw c.in_err-item.was at c.in-Some.ensures.steps in
    rw (p.1, p.2) (walk, past.stops walk e (stops-here c.args.nest walk e step.0 step.1), past.left)

pub returns-in_err-check_attribute-clause-stopped : goal.returns-in_err-check_attribute-clause-stopped
returns-in_err-check_attribute-clause-stopped c =
    let p = err_from_is_err_and c.from_residual-in_err-check_attribute.result c.from_residual-in_err-check_attribute.ensures.1 in
    let e = c.in_err-check_attribute.field-0.0 in
    let item = c.in_ok-item.item in
    let walk = c.loop-next.walk in
    let rest = c.next.new.self in
    let past = c.loop-next.invariant in
    let front : Front walk item rest = rw c.in_ok-item.was at c.in-Some.ensures.steps in
    rw (p.1, p.2) (walk, past.stops walk e (stops-in c.args.nest walk item rest front e c.in_err-check_attribute.ensures.refused), past.left)

pub loop-next-preserved : goal.loop-next-preserved
loop-next-preserved c =
    let nest = c.args.nest in
    let item = c.in_ok-item.item in
    let walk = c.loop-next.walk in
    let rest = c.next.new.self in
    let past = c.loop-next.invariant in
    let front : Front walk item rest = rw c.in_ok-item.was at c.in-Some.ensures.steps in
    let reads = c.in_ok-check_attribute.ensures.ok in
    let more = list-more nest walk walk rest item (leads-all (IsListAt nest) (ListFaultAt nest) walk) front reads in
    record {
      list = λ p. past.list (more.is p);
      stops = λ r e stops. past.stops r e (stops-later nest walk item rest front r e reads stops);
      within = omega (arith, past.within, Front-shrinks walk item rest front);
      left = ap length c.rest.ensures;
    }
