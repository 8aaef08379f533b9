-- What is cloned and then put into a variant.
use Rattle.std.specs.Prelude.{Result, Ok, Err, IfOk}
use Rattle.std.specs.Result.{MatchResult, IsOkAnd}
use Rattle.std.proofs.Common.{◌≡◌}

pub cloned : {X E V : Type 0} {P : X → Type 0} {Q : V → Type 0} {A : X → V → Type 0} (t : Result X E) (r : Result V E)
    → MatchResult t (λ x. IsOkAnd r (A x)) (λ e. r ≡ Err e) → IfOk t P → ((x : X) (v : V) → A x v → P x → Q v) → IfOk r Q
cloned (Ok x) (Ok v) m p f = f x v m p
cloned (Ok x) (Err e) m p f = tt
cloned (Err e) (Ok v) m p f = absurd cc
cloned (Err e) (Err d) m p f = tt
