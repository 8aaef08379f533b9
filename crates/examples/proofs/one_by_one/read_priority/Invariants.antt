use Rattle.std.proofs.Common.{◌≡◌, List, map}
use Rattle.examples.specs.OneByOne.{last_of, priority_of}
use Rattle.netlink_packet_route.specs.AddressAttribute.{family, attributes}
use Rattle.netlink_packet_route.specs.Attributes.{AttributeSteps}
use Rattle.netlink_packet_route.specs.declared.address.AddressAttribute.{AddressAttribute}
use Rattle.examples.proofs.one_by_one.read_priority.Given as goal

-- the attributes so far, and the last metric among them
abbrev pub invariant-loop-next : goal.invariant-loop-next
invariant-loop-next l =
    (xs : List AddressAttribute) × AttributeSteps family.meaning attributes l.initial.attributes.walk xs l.attributes.walk × (l.found ≡ last_of priority_of (map family.meaning xs))
