use Rattle.std.proofs.Common.{ℕ, ◌*◌, ◌∙◌, sym, ap, arith}
use Rattle.std.proofs.lemmas.Result.{IfOk-weaker}
use Rattle.npr_link_statistics.proofs.Places.{none-behind, numbers-behind}
use Rattle.npr_link_statistics.proofs.numbers.numbers_behind.Goals as goal

pub returns-then-bytes-size-clause-ok : goal.returns-then-bytes-size-clause-ok
returns-then-bytes-size-clause-ok g c = c.new.ensures.items ∙ sym (none-behind g.T.Block.width c.args.bytes.now c.size.result c.size.ensures c.if-bytes-size.true)

pub returns-clause-ok : goal.returns-clause-ok
returns-clause-ok g c =
    let start = ap (λ (n : ℕ). c.args.fields * n) (c.size-2.ensures ∙ sym c.size.ensures) in
    IfOk-weaker c.read_blocks.result _ _
    (λ numbers. numbers-behind g.T.Block.width c.args.bytes.now c.size.result c.size.ensures numbers.items (omega (arith, c.if-bytes-size.false)) start)
    c.read_blocks.ensures.ok
