-- What `==` says of two values.
--     IsEquality test              the test answers whether two values are equal
--     IsEqualityOf meaning test    it answers whether two values mean the same
use Rattle.std.specs.Prelude.{◌≡◌, Bool}
use Rattle.std.specs.Bool.{Decides}

abbrev pub IsEquality : {T : Type 0} → (T → T → Bool) → Type 0
IsEquality {T} test = (a b : T) → Decides (test a b) (a ≡ b)

abbrev pub IsEqualityOf : {T M : Type 0} → (T → M) → (T → T → Bool) → Type 0
IsEqualityOf {T} {M} meaning test = (a b : T) → Decides (test a b) (meaning a ≡ meaning b)
