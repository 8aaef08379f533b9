-- Addresses of IP, by their bytes.
use Rattle.std.specs.Prelude.{◌≡◌, ℕ, List, length}
use Rattle.std.specs.Net.Text.{ipv4_text, ipv6_text}
use Rattle.std.specs.Net.Addr.{segments_of}
use Rattle.npr_base.specs.declared.ip.IpAddr.{IpAddr}
use Rattle.npr_base.specs.declared.ip.IpAddr.TheVariants.{V4, V6}

-- the bytes, in the order of the network
abbrev pub octets_of : IpAddr → List ℕ
octets_of (V4 address) = address
octets_of (V6 address) = address

-- four bytes or sixteen are an address, whatever the family of the message
abbrev pub IsIp : List ℕ → IpAddr → Type 0
IsIp bytes (V4 octets) = (length bytes ≡ 4) × (octets ≡ bytes)
IsIp bytes (V6 octets) = (length bytes ≡ 16) × (octets ≡ bytes)

abbrev pub IsIpv4 : IpAddr → Type 0
IsIpv4 (V4 address) = Unit {0}
IsIpv4 (V6 address) = ⊥

abbrev pub IsIpv6 : IpAddr → Type 0
IsIpv6 (V4 address) = ⊥
IsIpv6 (V6 address) = Unit {0}

-- the text of an address: four decimal numbers with dots between them, or by RFC 5952 (section 4, and 5 for a mapped one)
abbrev pub ip_text : IpAddr → List ℕ
ip_text (V4 address) = ipv4_text address
ip_text (V6 address) = ipv6_text (segments_of address)
