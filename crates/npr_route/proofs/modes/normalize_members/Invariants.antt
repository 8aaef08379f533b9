use Rattle.npr_encapsulation.specs.Encapsulation.{meaning_of as member_of, normalized as normalized_member}
use Rattle.npr_route.proofs.Normalizing.{NormalizedSoFar}
use Rattle.npr_route.proofs.modes.normalize_members.Given as goal

abbrev pub invariant-loop-member : goal.invariant-loop-member
invariant-loop-member l = NormalizedSoFar member_of normalized_member l.fn.members l.members l.member-index
