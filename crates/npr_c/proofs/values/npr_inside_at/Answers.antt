-- What the walk finds at the place stands there, and the list is the end of its value.
use Rattle.std.proofs.Common.{arith, ap, length, refl, sym, ◌∙◌}
use Rattle.std.proofs.lemmas.List.{take_rest}
use Rattle.npr_c.specs.Nests.{nest_of}
use Rattle.npr_c.proofs.NestLaws.{from-numbers}
use Rattle.npr_c.proofs.ValueSteps.{inside_found, nothing_inside}
use Rattle.npr_c.proofs.values.npr_inside_at.Goals as goal

pub returns-in-None : goal.returns-in-None
returns-in-None c =
    let bytes = c.args.bytes.now in
    let nest = nest_of c.args.family c.args.context in
    let front = rw c.in-Some-Ok.field-0-is at c.in-Some-Ok.ensures.steps in
    let none = rw c.nest_of.ensures at c.in-None.ensures.none in
    nothing_inside bytes c.new-walk.result c.value.result.now c.args.at c.kind.result nest c.in-Some-Ok.item c.next.new.self
    (c.new-walk.ensures ∙ take_rest bytes c.args.at) front c.kind.ensures c.value.ensures (none refl)

pub returns-in-Some : goal.returns-in-Some
returns-in-Some c =
    let bytes = c.args.bytes.now in
    let nest = nest_of c.args.family c.args.context in
    let front = rw c.in-Some-Ok.field-0-is at c.in-Some-Ok.ensures.steps in
    let opens = rw c.nest_of.ensures at c.in-Some.ensures.inside in
    let numbers = rw c.nest_of.ensures at c.in-Some.ensures.numbers in
    rw c.list_at.ensures
    (inside_found bytes c.new-walk.result c.value.result.now c.in-Some.attributes.now c.args.at c.kind.result (length c.value-in-Some.result.now) nest
    c.in-Some.nest c.in-Some-Ok.item c.next.new.self (omega arith) (c.new-walk.ensures ∙ take_rest bytes c.args.at) front c.kind.ensures
    c.value.ensures (ap length (c.value-in-Some.ensures ∙ sym c.value.ensures)) (numbers (from-numbers c.args.family c.args.context (omega arith))) opens)
