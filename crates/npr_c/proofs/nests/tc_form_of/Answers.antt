use Rattle.std.proofs.Common.{sym, arith}
use Rattle.npr_c.proofs.NestLaws.{tc-past}
use Rattle.npr_c.proofs.nests.tc_form_of.Goals as goal

pub returns-in_default : goal.returns-in_default
returns-in_default c = sym (tc-past c.args.number (grind arith))
