-- Structures that grew over the years, kept as their bytes: a number of them by its place.
use Rattle.std.specs.Prelude.{ℕ, ◌+◌, List, length, nat_lt, take, drop, if◌then◌else◌}
use Rattle.std.proofs.Common.{refl, lit<}
use Rattle.npr_base.specs.Blocks.{Width}
use Rattle.npr_base.specs.Layout.{byte}

-- the number that stands at this place, and none where the bytes end before its end
abbrev pub field_at : {A : Type 0} → Width A → List ℕ → ℕ → A
field_at w bytes at = if nat_lt (length bytes) (at + w.layout.size) then w.none else w.layout.decode (take w.layout.size (drop at bytes))

-- a number of one byte
abbrev pub word8 : Width ℕ
word8 = record { layout = byte; positive = lit< tt; long = λ x. refl; none = 0 }
