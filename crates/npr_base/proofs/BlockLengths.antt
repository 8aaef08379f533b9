-- How long values are that are written one behind the other.
use Rattle.std.proofs.Common.{◌≡◌, ◌*◌, List, [], ◌∷◌, length, arith, suc-mul, length-append}
use Rattle.npr_base.specs.Blocks.{Width, block_bytes}

pub blocks-length : {A : Type 0} (width : Width A) (xs : List A) → length (block_bytes width.layout xs) ≡ length xs * width.layout.size
blocks-length width [] = omega arith
blocks-length width (x ∷ xs) =
    omega (arith, suc-mul (length xs) width.layout.size, blocks-length width xs, width.long x, length-append (width.layout.encode x) (block_bytes width.layout xs))
