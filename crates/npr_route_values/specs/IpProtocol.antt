-- Protocols over IP, by their table: `IPPROTO_*` of `linux/in.h`.
use Rattle.std.specs.Prelude.{ℕ, ◌^◌, ℤ, pos, negsuc, List, [], ◌∷◌, Option, Some, None, nat_lt, if◌then◌else◌}
use Rattle.std.proofs.Common.{refl, ap}
use Rattle.npr_base.specs.Layout.{Layout, byte, formed}
use Rattle.npr_base.specs.Numbering.{Numbering}
use Rattle.npr_base.specs.Rows.{number_by}
use Rattle.npr_base.specs.Enumeration.{by_signed_rows}
use Rattle.npr_route_values.specs.declared.ip_protocol.IpProtocol.{IpProtocol}
use Rattle.npr_route_values.specs.declared.ip_protocol.IpProtocol.TheVariants.{Hopopts, Icmp, Igmp, Ipip, Tcp, Egp, Pup, Udp}
use Rattle.npr_route_values.specs.declared.ip_protocol.IpProtocol.TheVariants.{Idp, Tp, Dccp, Ipv6, Rsvp, Gre, Esp}
use Rattle.npr_route_values.specs.declared.ip_protocol.IpProtocol.TheVariants.{Ah, Mtp, Beetph, Encap, Pim, Comp, L2tp}
use Rattle.npr_route_values.specs.declared.ip_protocol.IpProtocol.TheVariants.{Sctp, Udplite, Mpls, Ethernet, Raw, Mptcp}
use Rattle.npr_route_values.specs.declared.ip_protocol.IpProtocol.TheVariants.{Other}
use Rattle.npr_route_values.specs.contracts.ip_protocol.IpProtocol.{enum}

-- in the order of the variants
abbrev pub ip_protocol_rows : List (ℤ × IpProtocol)
ip_protocol_rows =
    (pos 0, Hopopts) ∷ (pos 1, Icmp) ∷ (pos 2, Igmp) ∷ (pos 4, Ipip) ∷ (pos 6, Tcp) ∷ (pos 8, Egp) ∷ (pos 12, Pup) ∷ (pos 17, Udp)
    ∷ (pos 22, Idp) ∷ (pos 29, Tp) ∷ (pos 33, Dccp) ∷ (pos 41, Ipv6) ∷ (pos 46, Rsvp) ∷ (pos 47, Gre) ∷ (pos 50, Esp) ∷ (pos 51, Ah)
    ∷ (pos 92, Mtp) ∷ (pos 94, Beetph) ∷ (pos 98, Encap) ∷ (pos 103, Pim) ∷ (pos 108, Comp) ∷ (pos 115, L2tp) ∷ (pos 132, Sctp)
    ∷ (pos 136, Udplite) ∷ (pos 137, Mpls) ∷ (pos 143, Ethernet) ∷ (pos 255, Raw) ∷ (pos 262, Mptcp) ∷ []

-- the protocol that a number reads as, and the number that one is written as
abbrev pub ip_protocols : Numbering ℤ IpProtocol
ip_protocols = by_signed_rows (number_by enum (pos 0) ip_protocol_rows (λ f. f.0)) Other ip_protocol_rows (λ d. refl) refl

-- the byte that says a number: none below 0 and above 255
abbrev pub byte_of : ℤ → Option ℕ
byte_of (pos n) = if nat_lt n (2 ^ 8) then Some n else None
byte_of (negsuc n) = None

-- how far a number is above 0
abbrev pub above_zero : ℤ → ℕ
above_zero (pos n) = n
above_zero (negsuc n) = 0

-- how one is read from a byte and written as one
abbrev pub ip_protocol : Layout IpProtocol
ip_protocol = formed byte (record {
  of = λ d. ip_protocols.of (pos d);
  number = λ x. above_zero (ip_protocols.number x);
  back = λ d. ap above_zero (ip_protocols.back (pos d));
})
