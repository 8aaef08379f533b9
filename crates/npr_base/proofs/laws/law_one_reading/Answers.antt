use Rattle.npr_base.proofs.Messages.{message-one}
use Rattle.npr_base.proofs.laws.law_one_reading.Goals as goal

pub returns : goal.returns
returns g c = message-one g.H.Header.grammar
