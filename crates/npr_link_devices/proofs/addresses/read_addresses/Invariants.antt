use Rattle.std.proofs.Common.{length, map}
use Rattle.npr_link_devices.proofs.AddressSteps.{SoFarRead}
use Rattle.npr_link_devices.proofs.addresses.read_addresses.Given as goal

abbrev pub invariant-loop-next : goal.invariant-loop-next
invariant-loop-next g l = SoFarRead g.A.Address.size l.bytes l.fn.looks l.looks (map g.A.Address.octets l.addresses.items) l.walk

abbrev pub decreases-loop-next : goal.decreases-loop-next
decreases-loop-next g l = length l.walk
