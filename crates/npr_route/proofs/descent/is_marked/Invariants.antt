use Rattle.std.proofs.Common.{◌≡◌, map, drop}
use Rattle.npr_encapsulation.specs.Encapsulation.{meaning_of}
use Rattle.npr_route.specs.FlatAttribute.{any_marks}
use Rattle.npr_route.proofs.descent.is_marked.Given as goal

-- what is left decides
abbrev pub invariant-loop-member : goal.invariant-loop-member
invariant-loop-member l = any_marks (map meaning_of l.members) ≡ any_marks (map meaning_of (drop l.member-index l.members))
