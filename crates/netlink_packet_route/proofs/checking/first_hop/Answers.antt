use Rattle.std.proofs.Common.{◌-◌, take, drop, arith}
use Rattle.std.proofs.lemmas.List.{take_rest}
use Rattle.npr_base.specs.Framing.{IsBytes}
use Rattle.npr_route.proofs.HopOpening.{opens}
use Rattle.npr_route.specs.Attribute.{HopFront}
use Rattle.npr_route.specs.NextHopHeader.{head_in}
use Rattle.netlink_packet_route.proofs.checking.first_hop.Goals as goal

pub returns-clause-ok : goal.returns-clause-ok
returns-clause-ok c =
    let hops = c.args.hops.now in
    let header = c.in_ok-length.field-0 in
    let whole = c.min-whole.result in
    let is : IsBytes hops = λ i. omega (arith, c.type_inv.hops i) in
    let front : HopFront hops (head_in header) (take (header.length - 8) (drop 8 hops)) (drop whole hops) =
    opens hops header whole is c.in_ok-length.ensures.ok (omega (arith, c.min-whole.ensures, c.next_multiple_of.ensures.value)) in
    (head_in header, rw take_rest front)
