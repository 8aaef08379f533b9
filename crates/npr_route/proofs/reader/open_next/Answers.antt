use Rattle.std.proofs.Common.{subst}
use Rattle.npr_base.specs.Counts.{Counts}
use Rattle.npr_route.specs.Governing.{Searches}
use Rattle.npr_route.specs.lemmas.Ahead.{sought}
use Rattle.npr_route.proofs.reader.open_next.Goals as goal

pub returns-clause-sought : goal.returns-clause-sought
returns-clause-sought c =
    rw c.new-level.ensures (sought c.args.level.now.context.2 c.governing_type-level.result c.in_ok-header.inside.now c.args.looks.now c.open_hop.new.looks
    c.governing_type-level.new.looks c.in_ok-header.ensures.hits c.governing_type-level.ensures.looks)

pub returns-clause-searched : goal.returns-clause-searched
returns-clause-searched c =
    rw c.new-level.ensures (subst (λ (k : Counts). Searches c.args.level.now.context.2 c.in_ok-header.inside.now c.governing_type-level.result k c.governing_type-level.new.looks)
    c.in_ok-header.ensures.hits c.governing_type-level.ensures.looks)
