use Rattle.std.proofs.Common.{ℕ, ◌*◌, ◌∙◌, sym, ap}
use Rattle.npr_link_statistics.proofs.Places.{number-there, number-not}
use Rattle.npr_link_statistics.proofs.numbers.number_at.Goals as goal

pub returns-then-at-bytes : goal.returns-then-at-bytes
returns-then-at-bytes g c =
    let start = ap (λ (n : ℕ). c.args.at * n) (c.size-then-at-bytes.ensures ∙ sym c.size.ensures) in
    number-there g.T.Block.width c.args.bytes.now c.size.result c.size.ensures c.if-at-bytes.true start c.in_front.ensures

pub returns-else-at-bytes : goal.returns-else-at-bytes
returns-else-at-bytes g c = c.zero.ensures ∙ number-not g.T.Block.width c.args.bytes.now c.size.result c.size.ensures c.if-at-bytes.false
