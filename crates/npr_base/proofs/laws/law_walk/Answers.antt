use Rattle.std.proofs.Common.{[]}
use Rattle.npr_base.proofs.WalkLaws.{Steps-find, Steps-are-passed, Steps-are-a-stop, Passes-are-steps, Stops-are-steps, Finds-length}
use Rattle.npr_base.proofs.laws.law_walk.Goals as goal

pub returns : goal.returns
returns c = record {
  cut = λ bytes items. (λ p. Steps-are-passed items bytes [] p, λ p. Passes-are-steps items bytes [] p);
  stop = λ bytes items e. (λ p. Steps-are-a-stop items bytes e p, λ p. Stops-are-steps items bytes e p);
  any = λ bytes steps rest p. let h = Steps-find bytes steps rest p in (h.0, h.1, Finds-length bytes steps rest h.0 h.1);
}
