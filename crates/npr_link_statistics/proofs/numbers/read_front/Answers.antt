use Rattle.std.proofs.Common.{List, set, ap, ◌∙◌, arith}
use Rattle.npr_link_statistics.proofs.Places.{filled-next}
use Rattle.npr_link_statistics.proofs.numbers.read_front.Goals as goal

pub loop-at-preserved : goal.loop-at-preserved
loop-at-preserved g c =
    ap (λ (xs : List g.row.T.Denot). set xs c.loop-at.at c.number_at.result) c.loop-at.invariant
    ∙ filled-next g.T.Block.width c.args.bytes.now c.args.fields.now c.loop-at.at c.number_at.result (omega (arith, c.loop-at-test.true, c.loop-at.auto)) c.number_at.ensures
