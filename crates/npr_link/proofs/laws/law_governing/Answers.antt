use Rattle.npr_link.specs.lemmas.Governing.{governs-one}
use Rattle.npr_link.specs.InfoList.{read-governed}
use Rattle.npr_link.proofs.laws.law_governing.Goals as goal

pub returns : goal.returns
returns c = record { one = governs-one; first = λ bytes ms is. read-governed is.0 bytes ms is.2 }
