-- The looks that reading options of Geneve takes: one at the header of each child, up to the end or to the first that is faulty.
use Rattle.std.proofs.Common.{◌≡◌, ℕ, ◌⊎◌, Bool, true, false, List}
use Rattle.npr_base.specs.Counts.{Counts, hit}
use Rattle.npr_base.specs.Framing.{Item, Front, number_of}
use Rattle.npr_base.specs.Looks.{ListLooks}
use Rattle.npr_base.specs.Looking.{no_looking}
use Rattle.npr_encapsulation.specs.Geneve.{ReadsChild, WrongChild}

-- a type or data stand in front
abbrev pub BeginsInside : List ℕ → Type 0
BeginsInside bytes = (x : Item) × (rest : List ℕ) × Front bytes x rest × ((number_of x.kind ≡ 2) ⊎ (number_of x.kind ≡ 3))

-- where an option is open, those of a list of children; and where none is, a look at a type or data in front is the last
abbrev pub OptionsLooks : Bool → List ℕ → Counts → Counts → Type 0
OptionsLooks true bytes old new = ListLooks ReadsChild (WrongChild true) no_looking.Takes bytes old new
OptionsLooks false bytes old new =
    (BeginsInside bytes × (new ≡ hit old)) ⊎ ((BeginsInside bytes → ⊥) × ListLooks ReadsChild (WrongChild true) no_looking.Takes bytes old new)
