use Rattle.std.proofs.Common.{◌-◌, arith, drop, length, take}
use Rattle.std.proofs.lemmas.List.{take_rest}
use Rattle.npr_c.specs.Nests.{nest_of}
use Rattle.npr_c.proofs.NestLaws.{from-numbers}
use Rattle.npr_c.proofs.ValueSteps.{hop_list}
use Rattle.npr_c.proofs.values.npr_hop_inside.Goals as goal

pub returns : goal.returns
returns c =
    let bytes = c.args.bytes.now in
    let nest = rw c.nest_of.ensures at c.of_next_hop-nest.ensures.nest in
    let numbers = rw c.nest_of.ensures at c.of_next_hop-nest.ensures.numbers in
    let from = numbers (from-numbers c.args.family c.args.context (omega arith)) in
    let inside = take (length bytes - c.args.at) (drop c.args.at bytes) in
    let outer = nest_of c.args.family c.args.context in
    rw c.list_at.ensures
    (hop_list bytes inside c.args.at outer c.of_next_hop-nest.result (omega arith) (take_rest bytes c.args.at) from nest)
