-- Who made a route, by the table: `RTPROT_*` of `linux/rtnetlink.h`.
use Rattle.std.specs.Prelude.{ℕ, List, [], ◌∷◌, codes}
use Rattle.std.proofs.Common.{refl}
use Rattle.npr_base.specs.Layout.{Layout, byte, formed}
use Rattle.npr_base.specs.Numbering.{Numbering}
use Rattle.npr_base.specs.Rows.{Named, numbered, text_in}
use Rattle.npr_base.specs.Enumeration.{enumeration}
use Rattle.npr_base.specs.Text.{other_text}
use Rattle.npr_route_values.specs.declared.route_protocol.RouteProtocol.{RouteProtocol}
use Rattle.npr_route_values.specs.declared.route_protocol.RouteProtocol.TheVariants.{Unspec, IcmpRedirect, Kernel, Boot, Static, Gated, Ra, Mrt, Zebra, Bird}
use Rattle.npr_route_values.specs.declared.route_protocol.RouteProtocol.TheVariants.{DnRouted, Xorp, Ntk, Dhcp, Mrouted, KeepAlived}
use Rattle.npr_route_values.specs.declared.route_protocol.RouteProtocol.TheVariants.{Babel, Bgp, Isis, Ospf, Rip}
use Rattle.npr_route_values.specs.declared.route_protocol.RouteProtocol.TheVariants.{Eigrp, Other}
use Rattle.npr_route_values.specs.contracts.route_protocol.RouteProtocol.{enum}

-- in the order of the variants
abbrev pub route_protocol_rows : List (Named RouteProtocol)
route_protocol_rows =
    (0, Unspec, codes "unspec") ∷ (1, IcmpRedirect, codes "icmp_redirect") ∷ (2, Kernel, codes "kernel") ∷ (3, Boot, codes "boot")
    ∷ (4, Static, codes "static") ∷ (8, Gated, codes "gated") ∷ (9, Ra, codes "ra") ∷ (10, Mrt, codes "merit_mrt")
    ∷ (11, Zebra, codes "zebra") ∷ (12, Bird, codes "bird") ∷ (13, DnRouted, codes "decnet_routing_daemon") ∷ (14, Xorp, codes "xorp")
    ∷ (15, Ntk, codes "netsukuku") ∷ (16, Dhcp, codes "Dhcp") ∷ (17, Mrouted, codes "multicast_daemon")
    ∷ (18, KeepAlived, codes "keepalived_daemon") ∷ (42, Babel, codes "babel") ∷ (186, Bgp, codes "bgp") ∷ (187, Isis, codes "isis")
    ∷ (188, Ospf, codes "ospf") ∷ (189, Rip, codes "rip") ∷ (192, Eigrp, codes "eigrp") ∷ []

-- the protocol that a number reads as, and the number that one is written as
abbrev pub route_protocols : Numbering ℕ RouteProtocol
route_protocols = enumeration enum (numbered route_protocol_rows) Other (λ f. f.0) (λ d. refl) refl

-- how one is read and written
abbrev pub route_protocol : Layout RouteProtocol
route_protocol = formed byte route_protocols

-- the text of a protocol
abbrev pub route_protocol_text : RouteProtocol → List ℕ
route_protocol_text x = text_in enum route_protocol_rows (λ f. other_text f.0) x
