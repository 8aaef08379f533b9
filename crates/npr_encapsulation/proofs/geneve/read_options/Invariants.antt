use Rattle.std.proofs.Common.{length, map}
use Rattle.npr_encapsulation.specs.Geneve.{option_of}
use Rattle.npr_encapsulation.specs.GeneveSteps.{seen}
use Rattle.npr_encapsulation.proofs.Groups.{SoFarRead}
use Rattle.npr_encapsulation.proofs.geneve.read_options.Given as goal

abbrev pub invariant-loop-next : goal.invariant-loop-next
invariant-loop-next l = SoFarRead l.bytes l.fn.looks l.looks (map option_of l.options.items) (seen l.current) l.walk

abbrev pub decreases-loop-next : goal.decreases-loop-next
decreases-loop-next l = length l.walk
