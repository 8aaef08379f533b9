use Rattle.std.proofs.Common.{List}
use Rattle.examples.specs.Walk.{HasNone}
use Rattle.netlink_packet_route.specs.Framing.{Item, Passes}
use Rattle.examples.proofs.walk.find_value.Given as goal

-- what was passed has no attribute of the number
abbrev pub invariant-loop-next : goal.invariant-loop-next
invariant-loop-next l = (passed : List Item) × Passes l.bytes passed l.walk × HasNone l.number passed
