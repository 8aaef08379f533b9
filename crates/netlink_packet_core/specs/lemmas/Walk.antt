-- What `==` answers of borrowed messages.
use Rattle.std.specs.Cmp.{unsigned_Decides}
use Rattle.std.specs.Cmp.Lexicographic.{bytes_decides}
use Rattle.std.proofs.Common.{ap, refl}
use Rattle.npr_base.specs.Equality.{IsEquality}
use Rattle.npr_base.proofs.EqualityLaws.{one_equality}
use Rattle.npr_base.proofs.StructLaws.{◌beside◌, struct_equality, and_decides, decides_as}
use Rattle.netlink_packet_core.specs.contracts.header.NetlinkHeader.{struct}
use Rattle.netlink_packet_core.specs.Envelope.{Envelope}
use Rattle.netlink_packet_core.specs.Walk.{same_header, same_envelope}

pub header_equality : IsEquality same_header
header_equality =
    struct_equality struct (λ v. tt) (λ d. refl)
    (unsigned_Decides beside unsigned_Decides beside unsigned_Decides beside unsigned_Decides beside one_equality unsigned_Decides)

pub envelope_equality : IsEquality same_envelope
envelope_equality a b =
    decides_as
    (λ p. λ i. record { header = p.0 i; payload = p.1 i })
    (λ e. (ap (λ (x : Envelope). x.header) e, ap (λ (x : Envelope). x.payload) e))
    (and_decides (header_equality a.header b.header) (bytes_decides a.payload b.payload))
