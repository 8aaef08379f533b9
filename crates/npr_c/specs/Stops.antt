-- Where in a message the first fault stands, as an answer tells it.
use Rattle.std.specs.Prelude.{◌≡◌, ◌⊎◌, ◌<◌, ℕ, List, length}
use Rattle.netlink_packet_route.specs.MessageKind.{header_size}
use Rattle.netlink_packet_route.specs.Stops.{StandsIn}
use Rattle.netlink_packet_route.specs.declared.framing.DecodeError.{DecodeError}
use Rattle.netlink_packet_route.specs.declared.kind.MessageKind.{MessageKind}
use Rattle.npr_c.specs.Faults.{no_fault, located}
use Rattle.npr_c.specs.declared.faults.Fault.{Fault}

-- the fault that it tells stands there, or there are fewer bytes than a header
abbrev pub IsPlaced : MessageKind → List ℕ → Fault → Type 0
IsPlaced kind bytes answer =
    (answer ≡ no_fault)
    ⊎ ((e : DecodeError) × (answer ≡ located e answer.offset)
    × (((length bytes < header_size kind) × (answer.offset ≡ 0)) ⊎ StandsIn kind bytes answer.offset e))
