use Rattle.std.proofs.Common.{◌≡◌, List, length, None}
use Rattle.npr_base.specs.FirstTold.{hit_each}
use Rattle.npr_base.specs.Lists.{AllOf}
use Rattle.npr_base.specs.Framing.{Item, Passes}
use Rattle.npr_nexthop.specs.Governing.{item_type}
use Rattle.npr_nexthop.proofs.governing.governing_type.Given as goal

-- the attributes so far tell none, and each had its look
abbrev pub invariant-loop-item : goal.invariant-loop-item
invariant-loop-item l =
    (before : List Item) × Passes l.bytes before l.walk × AllOf (λ x. item_type x ≡ None) before × (l.looks ≡ hit_each before l.fn.looks)

abbrev pub decreases-loop-item : goal.decreases-loop-item
decreases-loop-item l = length l.walk
