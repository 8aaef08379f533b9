-- An address message: its header, and attributes to the end (linux/if_addr.h).
use Rattle.npr_base.specs.Message.{Grammar, grammar_by}
use Rattle.npr_address.specs.Attribute.{family}
use Rattle.npr_address.specs.Header.{header, default_header}
use Rattle.npr_address.specs.declared.header.AddressHeader.{AddressHeader}
use Rattle.npr_address.specs.declared.attribute.AddressAttribute.{AddressAttribute}

abbrev pub addresses : Grammar AddressHeader AddressAttribute
addresses = grammar_by family header default_header (λ h. tt)
