use Rattle.std.proofs.Common.{sym, arith}
use Rattle.npr_c.proofs.NestLaws.{action-past}
use Rattle.npr_c.proofs.nests.tc_action_form_of.Goals as goal

pub returns-in_default : goal.returns-in_default
returns-in_default c = sym (action-past c.args.number (grind arith))
