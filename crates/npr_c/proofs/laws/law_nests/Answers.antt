use Rattle.npr_c.proofs.NestLaws.{nest-back}
use Rattle.npr_c.proofs.laws.law_nests.Goals as goal

pub returns : goal.returns
returns c = nest-back
