use Rattle.std.proofs.Common.{◌≡◌, map, take}
use Rattle.npr_base.proofs.list.clone_list.Given as goal

abbrev pub invariant-loop-x : goal.invariant-loop-x
invariant-loop-x g l = map g.A.Attribute.family.meaning l.copies.items ≡ map g.A.Attribute.family.meaning (take l.x-index l.list)
