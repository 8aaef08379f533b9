-- What the walk finds at the place stands there.
use Rattle.std.proofs.Common.{arith, inr, ◌∙◌}
use Rattle.std.proofs.lemmas.List.{take_rest}
use Rattle.npr_c.proofs.Places.{found_in}
use Rattle.npr_c.proofs.steps.npr_step_at.Goals as goal

pub returns-in-Some-Ok : goal.returns-in-Some-Ok
returns-in-Some-Ok c =
    let bytes = c.args.bytes.now in
    let front = rw c.in-Some-Ok.field-0-is at c.in-Some-Ok.ensures.steps in
    inr (inr (found_in bytes c.new-walk.result c.value.result.now c.rest.result.now c.args.at c.raw_kind.result c.in-Some-Ok.attribute c.next.new.self
    (omega arith) (c.new-walk.ensures ∙ take_rest bytes c.args.at) front c.value.ensures c.rest.ensures c.raw_kind.ensures))
