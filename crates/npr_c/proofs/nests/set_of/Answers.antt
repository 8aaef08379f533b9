use Rattle.std.proofs.Common.{sym, arith}
use Rattle.npr_c.proofs.NestLaws.{set-past}
use Rattle.npr_c.proofs.nests.set_of.Goals as goal

pub returns-in_default : goal.returns-in_default
returns-in_default c = sym (set-past c.args.number (grind arith))
