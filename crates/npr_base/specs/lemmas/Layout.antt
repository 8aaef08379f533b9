-- Numbers of one to eight bytes.
use Rattle.std.proofs.Common.{◌≡◌, ℕ, ◌^◌, ◌<◌, List, length, arith}
use Rattle.std.specs.Prelude.{ℤ, FitsSigned}
use Rattle.std.proofs.Common.{ap, ◌∙◌, to_z-of_z}
use Rattle.std.proofs.Math.Facts.{Fits-lt-pow, Fits-bits, sfits_to_z}
use mir.ValLaws.{of_z_fits}
use Rattle.std.proofs.lemmas.Nat.{from_le_bytes-to_le_bytes_4, from_le_bytes-to_le_bytes_8}
use Rattle.std.specs.Int.{w16, w32, w64, to_le_bytes, from_le_bytes, from_be_bytes, cast_signed, cast_unsigned}
use Rattle.npr_base.specs.Framing.{IsBytes}

pub le16-holds : (bytes : List ℕ) → IsBytes bytes → length bytes ≡ 2 → from_le_bytes w16 bytes < 2 ^ 16
le16-holds bytes is e = omega (arith, is 0, is 1)

pub le32-holds : (bytes : List ℕ) → IsBytes bytes → length bytes ≡ 4 → from_le_bytes w32 bytes < 2 ^ 32
le32-holds bytes is e = omega (arith, is 0, is 1, is 2, is 3)

pub le64-holds : (bytes : List ℕ) → IsBytes bytes → length bytes ≡ 8 → from_le_bytes w64 bytes < 2 ^ 64
le64-holds bytes is e = omega (arith, is 0, is 1, is 2, is 3, is 4, is 5, is 6, is 7)

pub be16-holds : (bytes : List ℕ) → IsBytes bytes → length bytes ≡ 2 → from_be_bytes w16 bytes < 2 ^ 16
be16-holds bytes is e = omega (arith, is 0, is 1)

pub be32-holds : (bytes : List ℕ) → IsBytes bytes → length bytes ≡ 4 → from_be_bytes w32 bytes < 2 ^ 32
be32-holds bytes is e = omega (arith, is 0, is 1, is 2, is 3)

pub be64-holds : (bytes : List ℕ) → IsBytes bytes → length bytes ≡ 8 → from_be_bytes w64 bytes < 2 ^ 64
be64-holds bytes is e = omega (arith, is 0, is 1, is 2, is 3, is 4, is 5, is 6, is 7)

pub signed32-back : (z : ℤ) → FitsSigned w32 z → cast_signed w32 (from_le_bytes w32 (to_le_bytes w32 (cast_unsigned w32 z))) ≡ z
signed32-back z fits = ap (cast_signed w32) (from_le_bytes-to_le_bytes_4 (cast_unsigned w32 z) (Fits-lt-pow (of_z_fits w32 z fits))) ∙ to_z-of_z fits

pub signed32-holds : (bytes : List ℕ) → IsBytes bytes → length bytes ≡ 4 → FitsSigned w32 (cast_signed w32 (from_le_bytes w32 bytes))
signed32-holds bytes is e = sfits_to_z {w = w32} (Fits-bits {w = w32} 32 tt (le32-holds bytes is e))

pub signed64-back : (z : ℤ) → FitsSigned w64 z → cast_signed w64 (from_le_bytes w64 (to_le_bytes w64 (cast_unsigned w64 z))) ≡ z
signed64-back z fits = ap (cast_signed w64) (from_le_bytes-to_le_bytes_8 (cast_unsigned w64 z) (Fits-lt-pow (of_z_fits w64 z fits))) ∙ to_z-of_z fits

pub signed64-holds : (bytes : List ℕ) → IsBytes bytes → length bytes ≡ 8 → FitsSigned w64 (cast_signed w64 (from_le_bytes w64 bytes))
signed64-holds bytes is e = sfits_to_z {w = w64} (Fits-bits {w = w64} 64 tt (le64-holds bytes is e))
