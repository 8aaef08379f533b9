-- How a caller ends where a message is not written.
use Rattle.netlink_packet_route.specs.declared.framing.DecodeError.TheVariants.{OutOfMemory}
use Rattle.netlink_packet_route.specs.declared.framing.WriteError.{WriteError}
use Rattle.netlink_packet_route.specs.declared.framing.WriteError.TheVariants as Unwritten
use Rattle.examples.specs.declared.fault.Fault.{Fault}
use Rattle.examples.specs.declared.fault.Fault.TheVariants.{Refused, Unfit}

abbrev pub unwritten : WriteError → Fault
unwritten Unwritten.OutOfMemory = Refused OutOfMemory
unwritten (Unwritten.Unfit cause) = Unfit cause
