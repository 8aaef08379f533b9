use Rattle.std.proofs.Common.{◌≡◌, List, length}
use Rattle.netlink_packet_route.specs.Framing.{Item, Passes}
use Rattle.netlink_report.proofs.report.count.Given as goal

-- so many were passed
abbrev pub invariant-loop-next : goal.invariant-loop-next
invariant-loop-next l = (passed : List Item) × Passes l.attributes passed l.walk × (l.found ≡ length passed)
