use Rattle.npr_base.proofs.NestLaws.{opens-here}
use Rattle.netlink_packet_route.proofs.NestLaws.{nests}
use Rattle.netlink_packet_route.proofs.NestRows.{Own}
use Rattle.netlink_packet_route.specs.Nests.{Inner, reading_of, within}
use Rattle.netlink_packet_route.proofs.laws.law_inside.Goals as goal

pub returns : goal.returns
returns c = λ outer inner number value inside is.
    opens-here reading_of (Inner (within outer.set outer.context)) (Own outer.set outer.context) (reading_of outer).reading (nests outer) number is.set
    is.front is.form value inner is.named is.long
