use Rattle.npr_base.proofs.Messages.{message-canonical}
use Rattle.npr_base.proofs.laws.law_canonical.Goals as goal

pub returns : goal.returns
returns g c = message-canonical g.H.Header.grammar
