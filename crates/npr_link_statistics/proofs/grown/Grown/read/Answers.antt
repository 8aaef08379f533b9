use Rattle.std.proofs.Common.{sym, subst}
use Rattle.std.proofs.lemmas.Result.{IfOk-weaker}
use Rattle.npr_link_statistics.specs.Grown.{Grown, grown, numbers-read}
use Rattle.npr_link_statistics.proofs.grown.Grown.read.Goals as goal

pub returns-clause-ok : goal.returns-clause-ok
returns-clause-ok g c =
    let names = g.Self.Grown.names in
    IfOk-weaker c.of_numbers.result _ _
    (λ x e. subst ((grown g.Self.Number.Block.width names).Reads c.args.bytes.now) (sym e) (numbers-read g.Self.Number.Block.width names c.args.bytes.now))
    c.of_numbers.ensures.ok
