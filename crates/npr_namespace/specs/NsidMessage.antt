-- A message of name spaces: its header, and attributes to the end (linux/rtnetlink.h).
use Rattle.npr_base.specs.Message.{Grammar, grammar_by}
use Rattle.npr_namespace.specs.NsidHeader.{header, default_header}
use Rattle.npr_namespace.specs.NsidAttribute.{family}
use Rattle.npr_namespace.specs.declared.nsid.NsidHeader.{NsidHeader}
use Rattle.npr_namespace.specs.declared.nsid_attribute.NsidAttribute.{NsidAttribute}

abbrev pub nsids : Grammar NsidHeader NsidAttribute
nsids = grammar_by family header default_header (λ h. tt)
