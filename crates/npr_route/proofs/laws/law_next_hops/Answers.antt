use Rattle.npr_route.specs.lemmas.Attribute.{hops-one, hops-sound, hops-coherent, hops-back, hops-grow, hops-depth}
use Rattle.npr_route.proofs.laws.law_next_hops.Goals as goal

pub returns-clause-one : goal.returns-clause-one
returns-clause-one c = hops-one

pub returns-clause-none : goal.returns-clause-none
returns-clause-none c = hops-sound

pub returns-clause-coherent : goal.returns-clause-coherent
returns-clause-coherent c = hops-coherent

pub returns-clause-back : goal.returns-clause-back
returns-clause-back c = hops-back

pub returns-clause-growth : goal.returns-clause-growth
returns-clause-growth c = hops-grow

pub returns-clause-depth : goal.returns-clause-depth
returns-clause-depth c = hops-depth
