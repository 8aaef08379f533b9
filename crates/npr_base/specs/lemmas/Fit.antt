-- What fits is short.
use Rattle.std.specs.Prelude.{◌≡◌, ℕ, ◌≤◌, ◌^◌, Option, Some, None, length}
use Rattle.std.proofs.Common.{refl, inl, inr, arith}
use Rattle.std.proofs.lemmas.Bool.{cases_lt, lt-ltb, le-ltb}
use Rattle.npr_base.specs.declared.refusal.EmitError.TheVariants.{TooLong, Total}
use Rattle.npr_base.specs.declared.refusal.EmitError.{EmitError}
use Rattle.npr_base.specs.Framing.{Item}
use Rattle.npr_base.specs.Lists.{unfit_of, option_or, too_long}

pub none_both : {A : Type 0} (o p : Option A) → option_or o p ≡ None → (o ≡ None) × (p ≡ None)
none_both None p h = (refl, h)
none_both (Some x) p h = absurd cc

pub too_long-short : (kind len : ℕ) → too_long kind len ≡ None → len ≤ 65531
too_long-short kind len e = elim (cases_lt len 65532) [
  | inl lt ↦ omega arith
  | inr le ↦ elim (cases_lt len (2 ^ 64)) [
    | inl lt ↦ absurd (let h : too_long kind len ≡ Some (TooLong kind len) = rw (le-ltb len 65532 le, lt-ltb len (2 ^ 64) lt) refl in cc)
    | inr past ↦ absurd (let h : too_long kind len ≡ Some Total = rw (le-ltb len 65532 le, le-ltb len (2 ^ 64) past) refl in cc)
  ]
]

-- what fits holds nothing that doesn't
pub unfit_of-none : (unfit : Option EmitError) (x : Item) → unfit_of unfit x ≡ None → unfit ≡ None
unfit_of-none unfit x fits = (none_both unfit (too_long x.kind (length x.value)) fits).0

-- and is short
pub unfit_of-short : (unfit : Option EmitError) (x : Item) → unfit_of unfit x ≡ None → length x.value ≤ 65531
unfit_of-short unfit x fits = too_long-short x.kind (length x.value) (none_both unfit (too_long x.kind (length x.value)) fits).1
