-- A message of address labels: its header, and attributes to the end (linux/if_addrlabel.h).
use Rattle.npr_base.specs.Message.{Grammar, grammar_by}
use Rattle.npr_address.specs.AddressLabelHeader.{header, default_header}
use Rattle.npr_address.specs.AddressLabelAttribute.{family}
use Rattle.npr_address.specs.declared.address_label.AddressLabelHeader.{AddressLabelHeader}
use Rattle.npr_address.specs.declared.address_label_attribute.AddressLabelAttribute.{AddressLabelAttribute}

abbrev pub address_labels : Grammar AddressLabelHeader AddressLabelAttribute
address_labels = grammar_by family header default_header (λ h. tt)
