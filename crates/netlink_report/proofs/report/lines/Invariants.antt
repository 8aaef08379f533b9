use Rattle.std.proofs.Common.{◌≡◌, ◌++◌, List, string_bytes}
use Rattle.netlink_packet_route.specs.Framing.{Item, Passes}
use Rattle.netlink_report.specs.Report.{lines_text}
use Rattle.netlink_report.proofs.report.lines.Given as goal

-- the lines of those that were passed are there
abbrev pub invariant-loop-next : goal.invariant-loop-next
invariant-loop-next l = (passed : List Item) × Passes l.attributes passed l.walk × (string_bytes l.out ≡ string_bytes l.fn.out ++ lines_text passed)
