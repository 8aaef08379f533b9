use Rattle.netlink_packet_core.specs.Extended.{NoTexts}
use Rattle.netlink_packet_core.proofs.extended.error_text.Given as goal

-- what was passed has no text
abbrev pub invariant-loop-next : goal.invariant-loop-next
invariant-loop-next l = NoTexts l.attributes l.walk
