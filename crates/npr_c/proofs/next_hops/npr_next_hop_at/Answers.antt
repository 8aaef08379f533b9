use Rattle.std.proofs.Common.{◌≡◌, min, ◌+◌, ◌-◌, length, take, drop, inr, ap, arith}
use Rattle.std.proofs.lemmas.List.{take_rest}
use Rattle.netlink_packet_route.specs.Framing.{pad}
use Rattle.npr_c.proofs.HopPlaces.{hop_found}
use Rattle.npr_c.proofs.next_hops.npr_next_hop_at.Goals as goal

pub returns-in-Ok : goal.returns-in-Ok
returns-in-Ok c =
    let bytes = c.args.bytes.now in
    let at = c.args.at in
    let long = c.in-Ok.header.length in
    let left : take (length bytes - at) (drop at bytes) ≡ drop at bytes = take_rest bytes at in
    let checked = rw left at c.in-Ok.ensures.ok in
    let size : c.min-whole.result ≡ min (long + pad long) (length (drop at bytes)) =
    omega (arith, c.min-whole.ensures, c.next_multiple_of.ensures.value, ap length left) in
    inr (inr (hop_found bytes at c.in-Ok.header c.min-whole.result (λ i. omega (arith, c.type_inv.bytes i)) (omega arith) checked size))
