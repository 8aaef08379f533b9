use Rattle.std.proofs.Common.{rules}
use Rattle.npr_tc_qdiscs.proofs.netem_slot.TcNetemSlot.to_bytes.Goals as goal

pub returns : goal.returns
returns c = search rules depth 100
