use Rattle.npr_rule.specs.Action.{actions}
use Rattle.npr_rule.proofs.laws.law_numbers.Goals as goal

pub returns : goal.returns
returns c = actions.back
