use Rattle.npr_route.proofs.Refusals.{no_hops_read}
use Rattle.npr_route.proofs.reader.read_next_hops.Goals as goal

pub returns-clause-none : goal.returns-clause-none
returns-clause-none c = no_hops_read c.args.context c.args.bytes.now c.read_next_hops_body.result c.read_next_hops_body.ensures.refused
