use Rattle.netlink_packet_route.proofs.InnerLaws.{inner-plain}
use Rattle.netlink_packet_route.proofs.context.Context.inner.Goals as goal

pub returns-in_default : goal.returns-in_default
returns-in_default c =
    inner-plain c.args.self c.args.set c.args.value.now c.new-in_default.result c.in_default.not-LinkInfo c.in_default.not-TcAction c.new-in_default.ensures
