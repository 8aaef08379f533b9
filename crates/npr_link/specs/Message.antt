-- A link message: its header, and attributes to the end (linux/rtnetlink.h).
use Rattle.npr_base.specs.Message.{Grammar, grammar_by}
use Rattle.npr_link.specs.Attribute.{family}
use Rattle.npr_link.specs.Header.{header, default_header}
use Rattle.npr_link.specs.declared.header.LinkHeader.{LinkHeader}
use Rattle.npr_link.specs.declared.attribute.LinkAttribute.{LinkAttribute}

abbrev pub links : Grammar LinkHeader LinkAttribute
links = grammar_by family header default_header (λ h. h.interface_family)
