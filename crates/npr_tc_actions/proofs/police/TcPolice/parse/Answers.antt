use Rattle.std.proofs.Common.{rules}
use Rattle.npr_tc_actions.proofs.police.TcPolice.parse.Goals as goal

pub returns-clause-ok : goal.returns-clause-ok
returns-clause-ok c = search rules depth 200
