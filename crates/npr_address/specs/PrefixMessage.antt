-- A message of prefixes: its header, and attributes to the end (linux/rtnetlink.h).
use Rattle.npr_base.specs.Message.{Grammar, grammar_by}
use Rattle.npr_address.specs.PrefixHeader.{header, default_header}
use Rattle.npr_address.specs.PrefixAttribute.{family}
use Rattle.npr_address.specs.declared.prefix.PrefixHeader.{PrefixHeader}
use Rattle.npr_address.specs.declared.prefix_attribute.PrefixAttribute.{PrefixAttribute}

abbrev pub prefixes : Grammar PrefixHeader PrefixAttribute
prefixes = grammar_by family header default_header (λ h. tt)
