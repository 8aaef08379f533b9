-- A rule message: its header, and attributes to the end (linux/fib_rules.h).
use Rattle.npr_base.specs.Message.{Grammar, grammar_by}
use Rattle.npr_rule.specs.Attribute.{family}
use Rattle.npr_rule.specs.Header.{header, default_header}
use Rattle.npr_rule.specs.declared.header.RuleHeader.{RuleHeader}
use Rattle.npr_rule.specs.declared.attribute.RuleAttribute.{RuleAttribute}

abbrev pub rules : Grammar RuleHeader RuleAttribute
rules = grammar_by family header default_header (λ h. tt)
