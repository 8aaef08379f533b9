use Rattle.std.proofs.Common.{◌≡◌, map, take}
use Rattle.npr_encapsulation.specs.Geneve.{option_of}
use Rattle.npr_encapsulation.proofs.geneve.clone_options.Given as goal

abbrev pub invariant-loop-option : goal.invariant-loop-option
invariant-loop-option l = map option_of l.copies.items ≡ map option_of (take l.option-index l.options)
