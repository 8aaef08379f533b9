use Rattle.std.proofs.Common.{◌≡◌, ◌+◌, ◌-◌, ◌*◌, List, ◌++◌, length, take, sym, ◌∙◌, arith, length-append, length-take}
use Rattle.npr_base.proofs.BlockLengths.{blocks-length}
use Rattle.npr_link_statistics.proofs.numbers.grown_len.Goals as goal

pub returns : goal.returns
returns g c = λ xs e.
    let front : List g.row.T.Denot = take (c.args.fields - c.args.missing) xs in
    let count : c.saturating_sub.result + length c.args.more.now ≡ length (front ++ c.args.more.now) = omega (arith, e, c.saturating_sub.ensures, length-append front c.args.more.now, length-take (c.args.fields - c.args.missing) xs) in
    (λ i. count i * c.size.ensures i) ∙ sym (blocks-length g.T.Block.width (front ++ c.args.more.now))
