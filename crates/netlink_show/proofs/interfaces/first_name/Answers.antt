use Rattle.std.proofs.Common.{◌≢◌, ◌∙◌}
use Rattle.netlink_packet_route.specs.Framing.{Front, number_of}
use Rattle.netlink_show.specs.Interfaces.{ifname}
use Rattle.netlink_show.proofs.Naming.{one-more}
use Rattle.netlink_show.proofs.interfaces.first_name.Goals as goal

pub attributes-preserved : goal.attributes-preserved
attributes-preserved c =
    let item = c.in-Some-Ok.item in
    let front : Front c.attributes.walk item c.next.new.self = rw c.in-Some-Ok.field-0-is at c.in-Some-Ok.ensures.steps in
    let other : number_of item.kind ≢ ifname = λ same. c.if-kind-eq-IFLA_IFNAME.false (c.kind.ensures ∙ same) in
    one-more c.args.attributes.now c.attributes.walk c.next.new.self item c.attributes.invariant front other
