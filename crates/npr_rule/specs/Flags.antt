-- Sets of flags of a rule: every bit is kept.
use Rattle.std.specs.Prelude.{ℕ}
use Rattle.std.proofs.Common.{refl}
use Rattle.npr_base.specs.Numbering.{Numbering}
use Rattle.npr_rule.specs.declared.flags.RuleFlags.{RuleFlags}

-- the set of these bits, and the bits of a set
abbrev pub rule_flag_bits : Numbering ℕ RuleFlags
rule_flag_bits = record { of = λ bits. record { 0 = bits }; number = λ flags. flags.0; back = λ bits. refl }
