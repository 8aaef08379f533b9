use Rattle.std.proofs.Common.{length}
use Rattle.npr_link_statistics.proofs.Coherent.{coherent-formed, formed-coherent}
use Rattle.npr_link_statistics.proofs.laws.law_coherent.Goals as goal

pub returns : goal.returns
returns g c =
    let none = g.G.Number.Block.width.none in
    let n = length g.G.Grown.names.fields in
    record { read = formed-coherent none n; again = coherent-formed none n }
