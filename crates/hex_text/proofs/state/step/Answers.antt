use Rattle.hex_text.proofs.state.step.Goals as goal

pub returns-in-Half-clause-some : goal.returns-in-Half-clause-some
returns-in-Half-clause-some c = rw c.in-Half.is c.behind_digit.ensures.some

pub returns-in-Half-clause-none : goal.returns-in-Half-clause-none
returns-in-Half-clause-none c = rw c.in-Half.is c.behind_digit.ensures.none
