-- What fills the place is the attribute.
use Rattle.std.proofs.Common.{◌≡◌, ◌≤◌, ◌+◌, arith, ap, length}
use Rattle.std.proofs.lemmas.Grind.{common_steps}
use Rattle.npr_base.specs.Framing.{Item, encoding, framed}
use Rattle.npr_base.specs.lemmas.List.{length-encoding}
use Rattle.npr_c.proofs.WrittenPlaces.{put_found, put_inside}
use Rattle.npr_c.proofs.requests.npr_put_at.Goals as goal

pub returns-in-Ok-clause-found : goal.returns-in-Ok-clause-found
returns-in-Ok-clause-found c =
    λ written.
    let x : Item = record { kind = c.args.kind; value = c.args.value.now } in
    let short : length x.value ≤ 65531 = grind (arith, common_steps) in
    let size : c.in-Some.size ≡ framed (length x.value) = grind (arith, common_steps) in
    let end : c.in-Ok.end ≡ c.args.at + length (encoding x) = omega (arith, c.in-Ok.ensures.ok, length-encoding x) in
    put_found c.args.out.now c.fill_attribute.new.place c.args.at c.in-Ok.end x end (omega (arith, c.in-Ok.ensures.ok)) c.fill_attribute.ensures
    (omega arith) short c.written.result.length (ap (λ a. a.length) c.written.ensures)

pub returns-in-Ok-clause-inside : goal.returns-in-Ok-clause-inside
returns-in-Ok-clause-inside c =
    λ written.
    let x : Item = record { kind = c.args.kind; value = c.args.value.now } in
    let size : c.in-Some.size ≡ framed (length x.value) = grind (arith, common_steps) in
    let end : c.in-Ok.end ≡ c.args.at + length (encoding x) = omega (arith, c.in-Ok.ensures.ok, length-encoding x) in
    put_inside c.args.out.now c.fill_attribute.new.place c.args.at c.in-Ok.end x end (omega (arith, c.in-Ok.ensures.ok)) c.fill_attribute.ensures
    c.written.result.length
