use Rattle.std.proofs.Common.{◌≡◌, ◌+◌, ◌*◌}
use Rattle.netlink_show.proofs.walk.+list.Given as goal

abbrev pub decreases-push_each : goal.decreases-push_each
decreases-push_each l = 8 * l.list.depth + 5

abbrev pub decreases-push_hops : goal.decreases-push_hops
decreases-push_hops l = 8 * l.list.depth + 2

abbrev pub decreases-push_item : goal.decreases-push_item
decreases-push_item l = 8 * l.list.depth + 4

abbrev pub decreases-push_list : goal.decreases-push_list
decreases-push_list l = 8 * l.list.depth + 5

abbrev pub decreases-push_nested : goal.decreases-push_nested
decreases-push_nested l = 8 * l.list.depth + 3

abbrev pub invariant-push_hops-loop : goal.invariant-push_hops-loop
invariant-push_hops-loop l = l.depth + 1 ≡ l.fn.list.depth
