-- A range of users (linux/fib_rules.h, struct fib_rule_uid_range): start and end, 4 bytes each.
use Rattle.std.proofs.Common.{refl}
use Rattle.npr_base.specs.Fields.{le_four, ◌fills◌, ◌then◌, last, structure}
use Rattle.npr_base.specs.Layout.{Layout}
use Rattle.npr_rule.specs.contracts.uid_range.RuleUidRange.{struct}
use Rattle.npr_rule.specs.declared.uid_range.RuleUidRange.{RuleUidRange}

abbrev pub uid_range : Layout RuleUidRange
uid_range = structure struct (RuleUidRange.start fills le_four then last (RuleUidRange.end fills le_four)) refl (λ v. tt)
