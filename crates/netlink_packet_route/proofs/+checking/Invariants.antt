use Rattle.std.proofs.Common.{◌≡◌, ◌+◌, ◌*◌, [], length}
use Rattle.netlink_packet_route.proofs.CheckLaws.{Leads}
use Rattle.netlink_packet_route.specs.NestLists.{IsListAt, ListFaultAt}
use Rattle.netlink_packet_route.specs.Pending.{size_of, LeftLeads, AreLeft}
use Rattle.netlink_packet_route.proofs.+checking.Given as goal

-- ---- lists and attributes

abbrev pub decreases-nests::Nest::check : goal.decreases-nests::Nest::check
decreases-nests::Nest::check l = 8 * length l.bytes.now + 7

abbrev pub decreases-nests::Nest::check_attribute : goal.decreases-nests::Nest::check_attribute
decreases-nests::Nest::check_attribute l = 8 * length l.item.now.value + 8

abbrev pub decreases-nests::Nest::check_hops : goal.decreases-nests::Nest::check_hops
decreases-nests::Nest::check_hops l = 8 * length l.bytes.now + 6

abbrev pub invariant-nests::Nest::check-loop-next : goal.invariant-nests::Nest::check-loop-next
invariant-nests::Nest::check-loop-next l = Leads (IsListAt l.self) (ListFaultAt l.self) l.bytes l.walk

-- ---- next hops

abbrev pub decreases-checking::Left::check : goal.decreases-checking::Left::check
decreases-checking::Left::check l = 8 * size_of l.self.now + 5

abbrev pub decreases-checking::Left::goes_on : goal.decreases-checking::Left::goes_on
decreases-checking::Left::goes_on l = 8 * size_of l.self.now + 4

abbrev pub decreases-checking::Left::next_nest : goal.decreases-checking::Left::next_nest
decreases-checking::Left::next_nest l = 8 * size_of l.self.now + 3

abbrev pub decreases-checking::Left::enter_hop : goal.decreases-checking::Left::enter_hop
decreases-checking::Left::enter_hop l = 8 * size_of l.self.now + 2

abbrev pub decreases-checking::Left::reach_hops : goal.decreases-checking::Left::reach_hops
decreases-checking::Left::reach_hops l = 8 * size_of l.self.now + 1

abbrev pub invariant-checking::Left::check-loop-inner : goal.invariant-checking::Left::check-loop-inner
invariant-checking::Left::check-loop-inner l = LeftLeads l.fn.self l.self

abbrev pub decreases-checking::Left::check-loop-inner : goal.decreases-checking::Left::check-loop-inner
decreases-checking::Left::check-loop-inner l = size_of l.self

abbrev pub invariant-checking::Left::next_nest-loop-self : goal.invariant-checking::Left::next_nest-loop-self
invariant-checking::Left::next_nest-loop-self l = record {
  leads : LeftLeads l.fn.self l.self;
  end : l.self.hops ≡ [] → AreLeft l.self;
}

abbrev pub decreases-checking::Left::next_nest-loop-self : goal.decreases-checking::Left::next_nest-loop-self
decreases-checking::Left::next_nest-loop-self l = size_of l.self

abbrev pub invariant-checking::Left::reach_hops-loop-self : goal.invariant-checking::Left::reach_hops-loop-self
invariant-checking::Left::reach_hops-loop-self l =
    LeftLeads l.fn.self (record { nest = l.self-inside.nest; hops = l.self-inside.hops.now; rest = l.self-inside.rest })

abbrev pub decreases-checking::Left::reach_hops-loop-self : goal.decreases-checking::Left::reach_hops-loop-self
decreases-checking::Left::reach_hops-loop-self l = length l.self-inside.rest
