use Rattle.npr_base.proofs.WalkLaws.{ReadsList-cut}
use Rattle.npr_base.proofs.laws.law_cut.Goals as goal

pub returns : goal.returns
returns g c = λ context first second items xs whole cut p. ReadsList-cut (g.A.Attribute.family.reading context).Reads items first second xs whole cut p
