-- A range of ports (linux/fib_rules.h, struct fib_rule_port_range): start and end, 2 bytes each.
use Rattle.std.proofs.Common.{refl}
use Rattle.npr_base.specs.Fields.{le_two, ◌fills◌, ◌then◌, last, structure}
use Rattle.npr_base.specs.Layout.{Layout}
use Rattle.npr_rule.specs.contracts.port_range.RulePortRange.{struct}
use Rattle.npr_rule.specs.declared.port_range.RulePortRange.{RulePortRange}

abbrev pub port_range : Layout RulePortRange
port_range = structure struct (RulePortRange.start fills le_two then last (RulePortRange.end fills le_two)) refl (λ v. tt)
