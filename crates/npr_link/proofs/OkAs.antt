-- What an answer that is no refusal says, in other words.
--     ok_as            what its value meets, from what it met
--     answered_from    a call answers, where what is made of its answer does
use Rattle.std.specs.Prelude.{◌≡◌, IfOk, IfErr, Result, Ok, Err}
use Rattle.npr_base.specs.Looks.{Answered}
use Rattle.npr_base.specs.declared.refusal.DecodeError.{DecodeError}

pub ok_as : {V E : Type 0} {P Q : V → Type 0} (r : Result V E) → ((v : V) → P v → Q v) → IfOk r P → IfOk r Q
ok_as (Ok v) f h = f v h
ok_as (Err e) f h = tt

pub answered_from : {T V : Type 0} {P : V → Type 0} (read : Result T DecodeError) (r : Result V DecodeError)
    → ((v : V) → P v → (x : T) × (read ≡ Ok x)) → IfOk r P → IfErr r (λ e. read ≡ Err e) → Answered r → Answered read
answered_from read (Ok v) f ok refused answered = rw (f v ok).1 tt
answered_from read (Err e) f ok refused answered = rw refused answered
