-- What the walk finds at the place stands there, and is seen so.
use Rattle.std.proofs.Common.{arith, inr, ◌∙◌}
use Rattle.std.proofs.lemmas.List.{take_rest}
use Rattle.netlink_packet_route.specs.Value.{shown}
use Rattle.npr_c.specs.Nests.{nest_of}
use Rattle.npr_c.proofs.ValueSteps.{value_found}
use Rattle.npr_c.proofs.values.npr_value_at.Goals as goal

pub returns-in-Ok : goal.returns-in-Ok
returns-in-Ok c =
    let bytes = c.args.bytes.now in
    let nest = nest_of c.args.family c.args.context in
    let front = rw c.in-Some-Ok.field-0-is at c.in-Some-Ok.ensures.steps in
    let place = rw c.nest_of.ensures at c.in-Ok.ensures.place in
    let seen = rw c.nest_of.ensures at c.in-Ok.ensures.ok in
    rw (c.set_number.ensures, c.told-form.ensures)
    (inr (inr (value_found bytes c.new-walk.result c.rest.result.now c.args.at c.kind.result nest c.in-Some-Ok.item c.next.new.self c.in-Ok.place
    (shown c.in-Ok.value) (omega arith) (c.new-walk.ensures ∙ take_rest bytes c.args.at) front c.rest.ensures c.kind.ensures place seen)))
