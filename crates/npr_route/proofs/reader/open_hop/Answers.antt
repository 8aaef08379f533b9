use Rattle.std.proofs.Common.{◌≡◌, sym, subst, ◌∙◌, arith}
use Rattle.std.proofs.lemmas.List.{take_rest}
use Rattle.npr_route.specs.NextHopHeader.{IsChecked}
use Rattle.npr_route.specs.declared.next_hop_buffer.RouteNextHopBuffer.{RouteNextHopBuffer}
use Rattle.npr_route.proofs.HopOpening.{opens}
use Rattle.npr_route.proofs.reader.open_hop.Goals as goal

pub returns-clause-ok : goal.returns-clause-ok
returns-clause-ok c =
    let bytes = c.args.bytes.now in
    let header = c.in_front-header.result in
    let same : c.in_default.field-0 ≡ header = c.in_default.ensures.ok.0 ∙ sym c.in_front-header.ensures.1 in
    let checked = subst (λ (h : RouteNextHopBuffer). IsChecked bytes h) same c.in_default.ensures.ok in
    rw take_rest (opens bytes header c.min-next.result (λ i. omega (arith, c.type_inv.bytes i)) checked (omega (arith, c.min-next.ensures, c.next_multiple_of.ensures.value)))
