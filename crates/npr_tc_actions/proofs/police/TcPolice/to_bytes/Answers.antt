use Rattle.std.proofs.Common.{rules}
use Rattle.npr_tc_actions.proofs.police.TcPolice.to_bytes.Goals as goal

pub returns : goal.returns
returns c = search rules depth 200
