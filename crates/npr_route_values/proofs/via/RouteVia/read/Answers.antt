use Rattle.std.specs.Prelude.{IfOk}
use Rattle.std.proofs.Common.{◌≡◌, arith, ap, ◌∙◌, subst, take, drop}
use Rattle.std.specs.Int.{w16, from_le_bytes}
use Rattle.std.proofs.lemmas.List.{take_rest, get_or-take}
use Rattle.std.proofs.lemmas.Result.{IfOk-weaker}
use Rattle.npr_base.specs.declared.address_family.AddressFamily.{AddressFamily}
use Rattle.npr_base.specs.AddressFamily.{families}
use Rattle.npr_base.specs.Layout.{le16_at}
use Rattle.npr_route_values.specs.RouteVia.{IsAddress, via_form_of, via_of}
use Rattle.npr_route_values.specs.declared.via.RouteViaBuffer.{RouteViaBuffer}
use Rattle.npr_route_values.proofs.via.RouteVia.read.Goals as goal

pub returns-clause-ok : goal.returns-clause-ok
returns-clause-ok c =
    let bytes = c.args.bytes.now in
    let front = c.in_ok-number.ensures.ok in
    let two : from_le_bytes w16 (take 2 bytes) ≡ le16_at bytes 0 = omega (arith, get_or-take 2 bytes 0 0 (omega arith), get_or-take 2 bytes 1 0 (omega arith)) in
    let number : c.in_ok-number.field-0.address_family ≡ le16_at bytes 0 = ap (λ (b : RouteViaBuffer). b.address_family) front.1 ∙ two in
    let family : c.from.result ≡ families.of (le16_at bytes 0) = c.from.ensures ∙ ap families.of number in
    let read = rw take_rest at c.read_address.ensures.ok in
    let same = subst (λ (f : AddressFamily). IfOk c.read_address.result (λ via. IsAddress f (via_form_of f) (drop 2 bytes) (via_of via))) family read in
    IfOk-weaker c.read_address.result _ _ (λ via p. record { long = front.0; small = omega (arith, number, c.if-number-gt255.false); address = p }) same
