use Rattle.std.proofs.Common.{◌∙◌}
use Rattle.npr_base.proofs.Octets.{octets-standing}
use Rattle.npr_base.proofs.values.octets_at.Goals as goal

pub returns : goal.returns
returns g c = c.in-Some.ensures.cases.same ∙ octets-standing g.row.N c.args.bytes.now c.args.at c.requires
