use Rattle.netlink_packet_route.proofs.Stopping.{behind_short}
use Rattle.npr_c.proofs.ValueSteps.{begin_found}
use Rattle.npr_c.proofs.values.begin.Goals as goal

pub returns-in-Ok : goal.returns-in-Ok
returns-in-Ok c =
    rw c.list_at.ensures (begin_found c.args.kind c.args.bytes.now c.in-Ok.nest c.in-Ok.attributes.now c.in-Ok.ensures.ok c.in-Ok.ensures.numbers)

pub overflow_sub-bytes : goal.overflow_sub-bytes
overflow_sub-bytes c = behind_short c.args.kind c.args.bytes.now c.in-Ok.nest c.in-Ok.attributes.now c.in-Ok.ensures.ok
