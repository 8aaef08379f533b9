-- The status and the line on standard error of a run that prints no report.
use Rattle.std.specs.Prelude.{ℕ, List, codes, ◌++◌}
use Rattle.netlink_packet_route.specs.declared.CanonicalError.{CanonicalError}
use Rattle.netlink_packet_route.specs.declared.CanonicalError.TheVariants as Canonical
use Rattle.netlink_packet_route.specs.declared.framing.DecodeError.{DecodeError}
use Rattle.netlink_packet_route.specs.declared.framing.DecodeError.TheVariants.{OutOfMemory}
use Rattle.netlink_packet_route.specs.Refusal.{decode_name, emit_name}
use Rattle.netlink_report.specs.declared.error.RunError.{RunError}
use Rattle.netlink_report.specs.declared.error.RunError.TheVariants.{BadHex, Refused, Unfit, Memory, Read, Write}

abbrev pub status_of : RunError → ℕ
status_of (Refused fault) = 1
status_of BadHex = 2
status_of (Unfit fault) = 3
status_of Memory = 4
status_of Read = 5
status_of Write = 5

abbrev pub line_of : RunError → List ℕ
line_of (Refused fault) = codes "refused: " ++ decode_name fault
line_of BadHex = codes "bad hex"
line_of (Unfit fault) = codes "unfit: " ++ emit_name fault
line_of Memory = codes "out of memory"
line_of Read = codes "read failed"
line_of Write = codes "write failed"

-- how a run ends where bytes are refused
abbrev pub refusal_of : DecodeError → RunError
refusal_of OutOfMemory = Memory
refusal_of e = Refused e

-- how a run ends where there are no canonical bytes
abbrev pub ended_by : CanonicalError → RunError
ended_by (Canonical.Refused e) = refusal_of e
ended_by (Canonical.Unfit cause) = Unfit cause

-- how a run can end by the message alone, or for want of memory, which is no refusal
abbrev pub IsOfMessage : RunError → Type 0
IsOfMessage (Refused OutOfMemory) = ⊥
IsOfMessage BadHex = ⊥
IsOfMessage Read = ⊥
IsOfMessage Write = ⊥
IsOfMessage e = Unit {0}

-- how a run can end by the text alone, or for want of memory
abbrev pub IsOfText : RunError → Type 0
IsOfText BadHex = Unit {0}
IsOfText e = IsOfMessage e
