use Rattle.npr_base.proofs.Messages.{message-back}
use Rattle.npr_base.proofs.laws.law_read_back.Goals as goal

pub returns : goal.returns
returns g c = message-back g.H.Header.grammar
