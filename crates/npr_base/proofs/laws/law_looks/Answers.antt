use Rattle.npr_base.proofs.Messages.{message-looks-one, message-looks-add, message-bounded, message-saw}
use Rattle.npr_base.proofs.laws.law_looks.Goals as goal

pub returns : goal.returns
returns g c = record {
  one = message-looks-one g.H.Header.grammar;
  number = message-looks-add g.H.Header.grammar;
  bounded = message-bounded g.H.Header.grammar;
  counted = message-saw g.H.Header.grammar;
}
