use Rattle.std.proofs.Common.{ℕ, ◌*◌, length, sym, ap, ◌∙◌, arith}
use Rattle.npr_base.proofs.BlockLengths.{blocks-length}
use Rattle.npr_base.proofs.block.blocks_len.Goals as goal

pub overflow_mul-result : goal.overflow_mul-result
overflow_mul-result g c =
    let size = ap (λ (n : ℕ). length c.args.blocks.now * n) c.size.ensures ∙ sym (blocks-length g.T.Block.width c.args.blocks.now) in
    omega (arith, size, c.requires)

pub returns : goal.returns
returns g c = ap (λ (n : ℕ). length c.args.blocks.now * n) c.size.ensures ∙ sym (blocks-length g.T.Block.width c.args.blocks.now)
