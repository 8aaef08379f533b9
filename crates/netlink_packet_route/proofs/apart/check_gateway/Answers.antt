use Rattle.std.proofs.Common.{sym, ◌∙◌}
use Rattle.std.proofs.lemmas.Result.{IfOk-weaker, IfErr-weaker}
use Rattle.netlink_packet_route.proofs.CheckLaws.{gateway-read, gateway-faulty}
use Rattle.netlink_packet_route.proofs.apart.check_gateway.Goals as goal

pub returns-clause-ok : goal.returns-clause-ok
returns-clause-ok c =
    let number = sym c.kind.ensures ∙ c.if-kind-ne-RTA_VIA.false in
    let read = rw c.value.ensures at c.check_value.ensures.ok in
    IfOk-weaker c.check_value.result _ _ (λ u p under. gateway-read under c.args.item.now number p.0 p.1) read

pub returns-clause-refused : goal.returns-clause-refused
returns-clause-refused c =
    let number = sym c.kind.ensures ∙ c.if-kind-ne-RTA_VIA.false in
    let wrong = rw (c.value.ensures, c.at.ensures) at c.check_value.ensures.refused in
    IfErr-weaker c.check_value.result _ _ (λ e p under. gateway-faulty under c.args.item.now number e p) wrong
