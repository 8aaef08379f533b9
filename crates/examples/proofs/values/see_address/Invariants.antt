use Rattle.std.proofs.Common.{◌≡◌, List}
use Rattle.examples.specs.OneByOne.{last_of}
use Rattle.examples.specs.Seen.{seen_address}
use Rattle.netlink_packet_route.specs.AddressAttribute.{attributes}
use Rattle.netlink_packet_route.specs.Values.{ValueSteps}
use Rattle.netlink_packet_route.specs.declared.framing.At.{At}
use Rattle.netlink_packet_route.specs.declared.framing.Value.{Value}
use Rattle.examples.proofs.values.see_address.Given as goal

-- the values so far, and the last address among them
abbrev pub invariant-loop-next : goal.invariant-loop-next
invariant-loop-next l =
    (vs : List (At × Value)) × ValueSteps attributes l.initial.values.walk vs l.values.walk × (l.found ≡ last_of seen_address vs)
