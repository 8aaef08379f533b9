use Rattle.std.proofs.Common.{length, map, ◌-◌, ◌≤◌}
use Rattle.npr_base.specs.Counts.{Counts}
use Rattle.npr_base.specs.Looks.{ListLooks}
use Rattle.npr_base.specs.Lists.{ReadsTo}
use Rattle.npr_base.proofs.Looking.{SoFar}
use Rattle.npr_base.proofs.list.fill_list.Given as goal

abbrev pub invariant-loop-next : goal.invariant-loop-next
invariant-loop-next g l = record {
  read : ReadsTo (g.A.Attribute.family.reading l.context).Reads l.bytes (map g.A.Attribute.family.meaning l.found.items) l.walk;
  exact : (end : Counts) → ListLooks (g.A.Attribute.family.reading l.context).Reads (g.A.Attribute.family.reading l.context).Faulty (g.A.Attribute.family.reading l.context).looks.Takes l.walk l.looks end
      → ListLooks (g.A.Attribute.family.reading l.context).Reads (g.A.Attribute.family.reading l.context).Faulty (g.A.Attribute.family.reading l.context).looks.Takes l.bytes l.fn.looks end;
  left : length l.walk ≤ length l.bytes;
  looks : SoFar l.fn.looks l.looks (length l.bytes - length l.walk) (length (map g.A.Attribute.family.meaning l.found.items));
}

abbrev pub decreases-loop-next : goal.decreases-loop-next
decreases-loop-next g l = length l.walk
