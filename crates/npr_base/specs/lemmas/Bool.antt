-- Facts on one test.
use Rattle.std.specs.Bool.{MatchBool}
use Rattle.std.proofs.Common.{◌≡◌, Bool, true, false, refl}

-- two facts on the same test
pub both : {P Q S T R : Type 0} (b : Bool) → (P → S → R) → (Q → T → R) → MatchBool b P Q → MatchBool b S T → R
both true f g p q = f p q
both false f g p q = g p q

pub one_of : {P Q R : Type 0} (b : Bool) → (b ≡ true → P → R) → (b ≡ false → Q → R) → MatchBool b P Q → R
one_of true f g p = f refl p
one_of false f g p = g refl p
