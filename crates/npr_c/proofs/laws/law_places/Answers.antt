use Rattle.npr_c.proofs.StopsLaws.{stands-one}
use Rattle.npr_c.proofs.laws.law_places.Goals as goal

pub returns : goal.returns
returns c = stands-one
