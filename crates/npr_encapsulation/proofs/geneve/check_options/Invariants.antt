use Rattle.std.proofs.Common.{◌≡◌, ◌≤◌, ◌*◌, ◌^◌, ◌-◌, length, map, take, drop}
use Rattle.npr_base.specs.Lists.{first_unfit}
use Rattle.npr_encapsulation.specs.Geneve.{option_of, option_bytes, child_unfit, children_of}
use Rattle.npr_encapsulation.proofs.geneve.check_options.Given as goal

abbrev pub invariant-loop-option : goal.invariant-loop-option
invariant-loop-option l = record {
  fits : first_unfit child_unfit (children_of (map option_of l.options)) ≡ first_unfit child_unfit (children_of (map option_of (drop l.option-index l.options)));
  sum : l.total ≡ length (option_bytes (map option_of (take l.option-index l.options)));
  small : l.total ≤ l.option-index * (2 ^ 64 - 1);
}
