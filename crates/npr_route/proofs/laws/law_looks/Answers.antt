use Rattle.npr_route.specs.lemmas.LookBounds.{next-hops-bounded, hops-read, hops-are-wrong}
use Rattle.npr_route.proofs.laws.law_looks.Goals as goal

pub returns : goal.returns
returns c = record {
  next_hops = next-hops-bounded;
  read = hops-read;
  wrong = hops-are-wrong;
}
