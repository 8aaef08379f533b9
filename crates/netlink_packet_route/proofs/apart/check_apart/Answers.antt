use Rattle.std.proofs.lemmas.Option.{IfSome_then}
use Rattle.std.proofs.lemmas.Result.{IfOk-weaker, IfErr-weaker}
use Rattle.netlink_packet_route.specs.NestLists.{of_route}
use Rattle.netlink_packet_route.proofs.apart.check_apart.Goals as goal

pub returns-in-Route-clause-ok : goal.returns-in-Route-clause-ok
returns-in-Route-clause-ok c =
    rw c.in-Route.is (IfSome_then c.check_gateway.result c.check_gateway.ensures.ok (λ r p. IfOk-weaker r _ _ (λ u q. q (of_route c.args.nest.context)) p))

pub returns-in-Route-clause-refused : goal.returns-in-Route-clause-refused
returns-in-Route-clause-refused c =
    rw c.in-Route.is
    (IfSome_then c.check_gateway.result c.check_gateway.ensures.refused (λ r p. IfErr-weaker r _ _ (λ e q. q (of_route c.args.nest.context)) p))

pub returns-in-Encap-clause-ok : goal.returns-in-Encap-clause-ok
returns-in-Encap-clause-ok c = rw c.in-Encap.is c.check_apart.ensures.ok

pub returns-in-Opt-clause-ok : goal.returns-in-Opt-clause-ok
returns-in-Opt-clause-ok c = rw c.in-Opt.is c.check_apart-in-Opt.ensures.ok

pub returns-in-InfoBond-clause-ok : goal.returns-in-InfoBond-clause-ok
returns-in-InfoBond-clause-ok c = rw c.in-InfoBond.is c.check_apart-in-InfoBond.ensures.ok
