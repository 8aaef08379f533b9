-- Numbers of two, four and eight bytes, the lowest byte first.
use Rattle.std.specs.Prelude.{ℤ, pos}
use Rattle.std.proofs.Common.{ℕ, refl, lit<}
use Rattle.npr_base.specs.Layout.{le16, le32, le64, signed32, signed64}
use Rattle.npr_base.specs.Blocks.{Width}

abbrev pub words16 : Width ℕ
words16 = record { layout = le16; positive = lit< tt; long = λ x. refl; none = 0 }

abbrev pub words32 : Width ℕ
words32 = record { layout = le32; positive = lit< tt; long = λ x. refl; none = 0 }

abbrev pub words64 : Width ℕ
words64 = record { layout = le64; positive = lit< tt; long = λ x. refl; none = 0 }

abbrev pub signed_words32 : Width ℤ
signed_words32 = record { layout = signed32; positive = lit< tt; long = λ x. refl; none = pos 0 }

abbrev pub signed_words64 : Width ℤ
signed_words64 = record { layout = signed64; positive = lit< tt; long = λ x. refl; none = pos 0 }
