use Rattle.npr_encapsulation.proofs.Checked.{SoFarChecked}
use Rattle.npr_encapsulation.proofs.geneve.check_options_value.Given as goal

abbrev pub invariant-loop-next : goal.invariant-loop-next
invariant-loop-next l = SoFarChecked l.bytes l.inside l.walk
