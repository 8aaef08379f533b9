use Rattle.std.proofs.Common.{inl, inr, refl}
use Rattle.npr_c.proofs.Stopping.{placed, located_there}
use Rattle.npr_c.proofs.faults.judged.Goals as goal

pub returns-in-Ok-clause-fault : goal.returns-in-Ok-clause-fault
returns-in-Ok-clause-fault c = let (m, is) = c.in-Ok.ensures.ok in inl (m, is, refl)

pub returns-in-Err-clause-fault : goal.returns-in-Err-clause-fault
returns-in-Err-clause-fault c =
    let place = c.in-Err.place in
    inr (place.refusal, located_there c.standing.result c.of.result place.refusal place.offset c.of.ensures c.standing.ensures, c.in-Err.ensures.refused)

pub returns-in-Err-clause-place : goal.returns-in-Err-clause-place
returns-in-Err-clause-place c =
    let place = c.in-Err.place in
    placed c.args.kind c.args.bytes.now c.standing.result c.of.result place.refusal place.offset c.of.ensures c.standing.ensures c.in-Err.ensures.place
