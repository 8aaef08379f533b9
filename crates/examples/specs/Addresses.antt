-- What the examples find in address messages, and what they build.
use Rattle.std.specs.Prelude.{ℕ, List, [], ◌∷◌, ◌++◌, Option, Some, None, codes}
use Rattle.netlink_packet_route.specs.AddressAttribute.{attribute}
use Rattle.netlink_packet_route.specs.AddressFlags.{header_flag_bits}
use Rattle.netlink_packet_route.specs.AddressMessage.{addresses}
use Rattle.netlink_packet_route.specs.Messages.{View}
use Rattle.netlink_packet_route.specs.declared.AddressFamily.TheVariants.{Inet}
use Rattle.netlink_packet_route.specs.declared.address.AddressAttribute.{AddressAttribute}
use Rattle.netlink_packet_route.specs.declared.address.AddressAttribute.TheVariants.{Local}
use Rattle.netlink_packet_route.specs.declared.address.AddressHeader.{AddressHeader}
use Rattle.netlink_packet_route.specs.declared.address.AddressScope.TheVariants.{Host}
use Rattle.netlink_packet_route.specs.declared.net.IpAddr.TheVariants.{V4}

-- the four bytes of a local address of version 4
abbrev pub local_ipv4 : AddressAttribute → Option (List ℕ)
local_ipv4 (Local (V4 octets)) = Some octets
local_ipv4 a = None

-- 127.0.0.1 with a prefix of 8 bits, on the interface 1, under the label lo
abbrev pub loopback_header : AddressHeader
loopback_header = record { family = Inet; prefix_len = 8; flags = header_flag_bits.of 0x80; scope = Host; index = 1 }

abbrev pub loopback_octets : List ℕ
loopback_octets = 127 ∷ 0 ∷ 0 ∷ 1 ∷ []

-- as IFA_ADDRESS, IFA_LOCAL and IFA_LABEL
abbrev pub loopback : View addresses
loopback = record {
  header = loopback_header;
  attributes = attribute 1 (V4 loopback_octets) ∷ attribute 2 (V4 loopback_octets) ∷ attribute 3 (codes "lo") ∷ [];
}

-- its bytes: the header, the two addresses, and the label with its zero and another for padding
abbrev pub loopback_written : List ℕ
loopback_written =
    2 ∷ 8 ∷ 0x80 ∷ 254 ∷ 1 ∷ 0 ∷ 0 ∷ 0
    ∷ 8 ∷ 0 ∷ 1 ∷ 0 ∷ 127 ∷ 0 ∷ 0 ∷ 1
    ∷ 8 ∷ 0 ∷ 2 ∷ 0 ∷ 127 ∷ 0 ∷ 0 ∷ 1
    ∷ 7 ∷ 0 ∷ 3 ∷ 0 ∷ 108 ∷ 111 ∷ 0 ∷ 0
    ∷ []

-- a message with a metric for its route besides: IFA_RT_PRIORITY
abbrev pub with_priority : ℕ → View addresses → View addresses
with_priority priority m = record m { attributes = m.attributes ++ attribute 9 priority ∷ [] }
