-- The address of an address message, as an attribute means it, and as it is seen.
use Rattle.std.specs.Prelude.{◌==◌, Option, Some, None, if◌then◌else◌}
use Rattle.netlink_packet_route.specs.AddressAttribute.{family, value_of}
use Rattle.netlink_packet_route.specs.declared.framing.At.{At}
use Rattle.netlink_packet_route.specs.declared.framing.Value.{Value}
use Rattle.netlink_packet_route.specs.declared.framing.Value.TheVariants.{Address}
use Rattle.netlink_packet_route.specs.declared.net.IpAddr.{IpAddr}

-- IFA_ADDRESS
abbrev pub address_of : family.Meaning → Option IpAddr
address_of m = value_of 1 m

abbrev pub seen_address : At × Value → Option IpAddr
seen_address (at, Address a) = if at.number == 1 then Some a else None
seen_address v = None
