use Rattle.std.proofs.Common.{length, ◌-◌, ◌≡◌, ◌%◌, ◌≤◌, take}
use Rattle.npr_base.specs.V6List.{IsV6List}
use Rattle.npr_base.proofs.v6_list.read_v6_list.Given as goal

abbrev pub invariant-loop-at : goal.invariant-loop-at
invariant-loop-at l = record {
  read : IsV6List (take l.at l.bytes) l.addresses.items;
  whole : l.at % 16 ≡ 0;
  below : l.at ≤ length l.bytes;
}

abbrev pub decreases-loop-at : goal.decreases-loop-at
decreases-loop-at l = length l.bytes - l.at
