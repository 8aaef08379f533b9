-- Values with numbers, as enumerations, sets of flags, and structs over what they are made of.
use Rattle.std.specs.Prelude.{◌≡◌}
use Rattle.std.proofs.Common.{sym, ap}

-- what each number reads as, and the number that each value is written as; what a number reads as is written as that number
pub record Numbering (K V : Type 0) : Type 0 where
  pub of : K → V
  pub number : V → K
  pub back : (d : K) → number (of d) ≡ d

-- the value is what its own number reads as
abbrev pub IsFormed : {K V : Type 0} → Numbering K V → V → Type 0
IsFormed n x = x ≡ n.of (n.number x)

-- as what a number reads as is
pub of_IsFormed : {K V : Type 0} (n : Numbering K V) (d : K) → IsFormed n (n.of d)
of_IsFormed n d = ap n.of (sym (n.back d))
