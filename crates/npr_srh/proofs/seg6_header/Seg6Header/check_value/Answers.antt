use Rattle.npr_srh.proofs.Apart.{seg6_there}
use Rattle.npr_srh.proofs.seg6_header.Seg6Header.check_value.Goals as goal

pub returns-clause-ok : goal.returns-clause-ok
returns-clause-ok c = let front = c.in_ok-read_front.field-0 in seg6_there c.args.value.now front.0 front.1 c.in_ok-read_front.ensures.ok
