use Rattle.std.proofs.Common.{◌≡◌, map, ap, sym, ◌∙◌, subst, refl, length, min, take, drop, ◌+◌, ◌-◌, arith}
use Rattle.std.proofs.lemmas.List.{map_push}
use Rattle.std.proofs.lemmas.Result.{err_from_is_err_and}
use Rattle.npr_base.specs.Framing.{pad}
use Rattle.npr_route.specs.NextHopHeader.{head_in}
use Rattle.npr_route.specs.Attribute.{Hop, IsHop}
use Rattle.npr_route.specs.AttributeView.{hop_of}
use Rattle.npr_route.proofs.HopOpening.{opens}
use Rattle.npr_route.proofs.OneHop.{one_hop, one_hop_wrong, sized, only}
use Rattle.npr_route.proofs.reader.parse_with_param_body.Goals as goal

pub returns-in_err-hops-clause-refused : goal.returns-in_err-hops-clause-refused
returns-in_err-hops-clause-refused c =
    let bytes = c.args.bytes.now in
    let h = c.in_ok-header.header in
    let p = err_from_is_err_and c.from_residual-in_err-hops.result c.from_residual-in_err-hops.ensures.1 in
    let e = c.in_err-hops.field-0.0 in
    rw (p.1, p.2) (λ other. one_hop_wrong c.args.context bytes (head_in h) (take (h.length - 8) (drop 8 bytes)) (drop (min (h.length + pad h.length) (length bytes)) bytes) h.length e
    (opens bytes h _ (λ i. omega (arith, c.type_inv.bytes i)) c.in_ok-header.ensures.ok refl) (sized bytes h c.in_ok-header.ensures.ok) (c.in_err-hops.ensures.refused other))

pub returns-in_err-hops-clause-memory : goal.returns-in_err-hops-clause-memory
returns-in_err-hops-clause-memory c =
    let bytes = c.args.bytes.now in
    let h = c.in_ok-header.header in
    λ memory. (head_in h, take (h.length - 8) (drop 8 bytes), drop (min (h.length + pad h.length) (length bytes)) bytes, opens bytes h _ (λ i. omega (arith, c.type_inv.bytes i)) c.in_ok-header.ensures.ok refl)

pub returns-clause-ok : goal.returns-clause-ok
returns-clause-ok c =
    let bytes = c.args.bytes.now in
    let h = c.in_ok-header.header in
    let one = one_hop c.args.context bytes (head_in h) (take (h.length - 8) (drop 8 bytes)) (drop (min (h.length + pad h.length) (length bytes)) bytes) h.length
    (opens bytes h _ (λ i. omega (arith, c.type_inv.bytes i)) c.in_ok-header.ensures.ok refl) (sized bytes h c.in_ok-header.ensures.ok) (map hop_of c.in_ok-hops.hops.items) c.in_ok-hops.ensures.ok in
    let parts = ap (map hop_of) c.in-Some.ensures.items ∙ map_push hop_of c.pop.new.self.items c.in-Some.hop in
    let same : hop_of c.in-Some.hop ≡ one.0 = only (map hop_of c.pop.new.self.items) (hop_of c.in-Some.hop) one.0 (sym parts ∙ one.1) in
    subst (λ (k : Hop). IsHop c.args.context bytes k) (sym same) one.2
