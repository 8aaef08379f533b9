use Rattle.std.proofs.Common.{Err, ap, inl, inr}
use Rattle.std.proofs.lemmas.Result.{err_from_is_err_and}
use Rattle.npr_base.specs.Message.{view}
use Rattle.netlink_packet_route.specs.Canonical.{CanonicalFault, IsCanonical, TakesMemory}
use Rattle.netlink_packet_route.specs.declared.canonical_bytes.CanonicalError.TheVariants.{Refused}
use Rattle.netlink_packet_route.proofs.CanonicalLaws.{canonical-one, fault-none, unwritten-fault, unwritten-memory}
use Rattle.netlink_packet_route.proofs.canonical_bytes.canonical_by.Goals as goal

pub returns-in_err-message-clause-fault : goal.returns-in_err-message-clause-fault
unfolding CanonicalFault
returns-in_err-message-clause-fault g c =
    let p = err_from_is_err_and c.from_residual.result c.from_residual.ensures.1 in
    rw (p.1, p.2) (λ other. c.in_err-message.ensures.refused (λ is. other (ap Refused is)))

pub returns-in_err-to_vec-clause-fault : goal.returns-in_err-to_vec-clause-fault
returns-in_err-to_vec-clause-fault g c =
    let p = err_from_is_err_and c.from_residual-in_err-to_vec.result c.from_residual-in_err-to_vec.ensures.1 in
    let read = c.in_ok-message in
    let failed = c.in_err-to_vec in
    rw (p.1, p.2)
    (unwritten-fault g.H.Header.grammar c.args.bytes.now (view g.H.Header.grammar read.message) failed.field-0.0 read.ensures.ok
    (λ cause is. failed.ensures.unfit cause (ap Err is)))

pub returns-in_err-message-clause-memory : goal.returns-in_err-message-clause-memory
unfolding TakesMemory
returns-in_err-message-clause-memory g c is =
    let p = err_from_is_err_and c.from_residual.result c.from_residual.ensures.1 in
    inl (c.in_err-message.ensures.memory cc)

pub returns-in_err-to_vec-clause-memory : goal.returns-in_err-to_vec-clause-memory
unfolding TakesMemory
returns-in_err-to_vec-clause-memory g c is =
    let p = err_from_is_err_and c.from_residual-in_err-to_vec.result c.from_residual-in_err-to_vec.ensures.1 in
    let read = c.in_ok-message in
    let failed = c.in_err-to_vec in
    inr (unwritten-memory g.H.Header.grammar c.args.bytes.now (view g.H.Header.grammar read.message) failed.field-0.0 read.ensures.ok
    (λ is. failed.ensures.memory (ap Err is)) cc)

pub returns-clause-ok : goal.returns-clause-ok
unfolding IsCanonical
returns-clause-ok g c =
    let read = c.in_ok-message in
    (view g.H.Header.grammar read.message, read.ensures.ok, c.in_ok-to_vec.ensures.fits, c.in_ok-to_vec.ensures.ok)

pub returns-in_err-message-clause-none : goal.returns-in_err-message-clause-none
returns-in_err-message-clause-none g c =
    fault-none g.H.Header.grammar c.args.bytes.now c.from_residual.result (returns-in_err-message-clause-fault g c)

pub returns-in_err-to_vec-clause-none : goal.returns-in_err-to_vec-clause-none
returns-in_err-to_vec-clause-none g c =
    fault-none g.H.Header.grammar c.args.bytes.now c.from_residual-in_err-to_vec.result (returns-in_err-to_vec-clause-fault g c)

pub returns-clause-one : goal.returns-clause-one
returns-clause-one g c =
    λ other. canonical-one g.H.Header.grammar c.args.bytes.now c.in_ok-to_vec.field-0.items other (returns-clause-ok g c)
