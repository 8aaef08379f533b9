use Rattle.std.proofs.Common.{◌≡◌, ◌≤◌, ℕ, List, length}
use Rattle.npr_base.specs.declared.refusal.DecodeError.{DecodeError}
use Rattle.netlink_packet_route.specs.NestLists.{IsListAt}
use Rattle.netlink_packet_route.specs.Stops.{StopsAt}
use Rattle.netlink_packet_route.proofs.locating.check_each.Given as goal

-- what is left decides what all is, and where it stops
abbrev pub invariant-loop-next : goal.invariant-loop-next
invariant-loop-next l = record {
  list : IsListAt l.nest l.walk → IsListAt l.nest l.attributes;
  stops : (rest : List ℕ) (e : DecodeError) → StopsAt l.nest l.walk rest e → StopsAt l.nest l.attributes rest e;
  within : length l.walk ≤ length l.attributes;
  left : l.left ≡ length l.walk;
}
