-- What a rule does, by the table: `FR_ACT_*` of `linux/fib_rules.h`.
use Rattle.std.specs.Prelude.{ℕ, List, [], ◌∷◌}
use Rattle.std.proofs.Common.{refl}
use Rattle.npr_base.specs.Numbering.{Numbering}
use Rattle.npr_base.specs.Enumeration.{enumeration}
use Rattle.npr_rule.specs.declared.action.RuleAction.{RuleAction}
use Rattle.npr_rule.specs.declared.action.RuleAction.TheVariants.{Unspec, ToTable, Goto, Nop, Blackhole, Unreachable, Prohibit, Other}
use Rattle.npr_rule.specs.contracts.action.RuleAction.{enum}

-- in the order of the variants
abbrev pub action_rows : List (ℕ × RuleAction)
action_rows = (0, Unspec) ∷ (1, ToTable) ∷ (2, Goto) ∷ (3, Nop) ∷ (6, Blackhole) ∷ (7, Unreachable) ∷ (8, Prohibit) ∷ []

-- the action that a number reads as, and the number that one is written as
abbrev pub actions : Numbering ℕ RuleAction
actions = enumeration enum action_rows Other (λ f. f.0) (λ d. refl) refl
