use Rattle.std.proofs.Common.{◌≡◌, List, ℕ, refl}
use Rattle.npr_base.specs.declared.address_family.AddressFamily.{AddressFamily}
use Rattle.npr_base.specs.declared.address_family.AddressFamily.TheVariants.{Inet, Inet6, Packet}
use Rattle.npr_route_values.specs.RouteVia.{Via, inet, inet6, packet, other, via_form_of, IsAddress}
use Rattle.npr_route_values.proofs.via.check_address.Goals as goal

-- any bytes are an address of another family
outside : (family : AddressFamily) (bytes : List ℕ) → (family ≡ Inet → ⊥) → (family ≡ Inet6 → ⊥) → (via : Via) × IsAddress family (via_form_of family) bytes via
outside Inet bytes four six = absurd (four refl)
outside Inet6 bytes four six = absurd (six refl)
outside Packet bytes four six = (packet bytes, refl)
outside family bytes four six = (other family bytes, (refl, refl))

pub returns-in_ok-read_ipv4-in-Inet-clause-ok : goal.returns-in_ok-read_ipv4-in-Inet-clause-ok
returns-in_ok-read_ipv4-in-Inet-clause-ok c = rw c.in-Inet.is (inet c.args.bytes.now, (c.in_ok-read_ipv4-in-Inet.ensures.ok.0, refl))

pub returns-in_ok-read_ipv6-in-Inet6-clause-ok : goal.returns-in_ok-read_ipv6-in-Inet6-clause-ok
returns-in_ok-read_ipv6-in-Inet6-clause-ok c = rw c.in-Inet6.is (inet6 c.args.bytes.now, (c.in_ok-read_ipv6-in-Inet6.ensures.ok.0, refl))

pub returns-in_default : goal.returns-in_default
returns-in_default c = record { ok = outside c.args.family c.args.bytes.now c.in_default.not-Inet c.in_default.not-Inet6; refused = tt }
