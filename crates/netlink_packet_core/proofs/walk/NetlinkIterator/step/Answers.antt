use Rattle.std.proofs.Common.{arith}
use Rattle.netlink_packet_core.proofs.Fronts.{steps_to}
use Rattle.netlink_packet_core.proofs.walk.NetlinkIterator.step.Goals as goal

pub returns-in-Ok : goal.returns-in-Ok
returns-in-Ok c =
    steps_to c.args.self.now (record { offset = c.self.inside.offset; bytes = c.self.inside.rest.now }) c.in-Ok.found c.next_multiple_of-whole.result c.min-end.result c.pass.new.self
    c.self.view_is c.in-Ok.ensures (omega (arith, c.next_multiple_of-whole.ensures.value, c.length.ensures)) c.min-end.ensures c.pass.ensures
