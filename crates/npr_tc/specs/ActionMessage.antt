-- A message of actions: its header, and attributes to the end (linux/rtnetlink.h).
use Rattle.npr_base.specs.Message.{Grammar, grammar_by}
use Rattle.npr_tc.specs.ActionAttribute.{family}
use Rattle.npr_tc.specs.ActionHeader.{header, default_header}
use Rattle.npr_tc.specs.declared.action_attribute.TcActionMessageAttribute.{TcActionMessageAttribute}
use Rattle.npr_tc.specs.declared.action_header.TcActionMessageHeader.{TcActionMessageHeader}

abbrev pub messages : Grammar TcActionMessageHeader TcActionMessageAttribute
messages = grammar_by family header default_header (λ h. tt)
