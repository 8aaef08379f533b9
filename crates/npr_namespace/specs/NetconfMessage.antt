-- A message of settings: its header, and attributes to the end (linux/netconf.h).
use Rattle.npr_base.specs.Message.{Grammar, grammar_by}
use Rattle.npr_namespace.specs.NetconfHeader.{header, default_header}
use Rattle.npr_namespace.specs.NetconfAttribute.{family}
use Rattle.npr_namespace.specs.declared.netconf.NetconfHeader.{NetconfHeader}
use Rattle.npr_namespace.specs.declared.netconf_attribute.NetconfAttribute.{NetconfAttribute}

abbrev pub netconfs : Grammar NetconfHeader NetconfAttribute
netconfs = grammar_by family header default_header (λ h. tt)
