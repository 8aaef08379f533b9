use Rattle.std.proofs.Common.{◌≡◌, List, length, None}
use Rattle.npr_base.specs.FirstTold.{hit_each}
use Rattle.npr_base.specs.Lists.{AllOf}
use Rattle.npr_base.specs.Framing.{Item, Passes}
use Rattle.npr_base.proofs.governed.governing.Given as goal

-- the attributes so far tell nothing, and each had its look
abbrev pub invariant-loop-item : goal.invariant-loop-item
invariant-loop-item g l =
    (before : List Item) × Passes l.bytes before l.walk × AllOf (λ x. g.A.Governed.tells x ≡ None) before × (l.looks ≡ hit_each before l.fn.looks)

abbrev pub decreases-loop-item : goal.decreases-loop-item
decreases-loop-item g l = length l.walk
