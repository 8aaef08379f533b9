use Rattle.npr_c.proofs.Located.{one_refusal}
use Rattle.npr_c.proofs.laws.law_located.Goals as goal

pub returns : goal.returns
returns c = one_refusal
