use Rattle.std.proofs.Common.{◌≡◌, ℕ, ◌+◌, ◌-◌, length, refl, arith, inl, inr}
use Rattle.netlink_packet_route.specs.MessageKind.{form_of}
use Rattle.netlink_packet_route.proofs.ValidityLaws.{begun-message, begun-fault, begun-short}
use Rattle.netlink_packet_route.proofs.Stopping.{behind_short}
use Rattle.netlink_packet_route.proofs.locating.check_through.Goals as goal

pub returns-in-Err-clause-refused : goal.returns-in-Err-clause-refused
returns-in-Err-clause-refused c =
    let short = c.in-Err.ensures.short in
    begun-short (form_of c.args.kind) c.args.bytes.now c.in-Err.refusal short.0 short.1

pub returns-in-Err-clause-place : goal.returns-in-Err-clause-place
returns-in-Err-clause-place c = inl (c.in-Err.ensures.short.0, refl)

pub returns-in-Ok-check_each-clause-ok : goal.returns-in-Ok-check_each-clause-ok
returns-in-Ok-check_each-clause-ok c =
    let begun = c.in-Ok.list in
    begun-message (form_of c.args.kind) c.args.bytes.now begun.1.now begun.0 c.in-Ok.ensures.ok c.in-Ok-check_each.ensures.ok

pub overflow_sub-result : goal.overflow_sub-result
overflow_sub-result c =
    let begun = c.in-Ok.list in
    omega (arith, c.in-Err-check_each.ensures.within, behind_short c.args.kind c.args.bytes.now begun.0 begun.1.now c.in-Ok.ensures.ok)

pub returns-in-Err-check_each-clause-refused : goal.returns-in-Err-check_each-clause-refused
returns-in-Err-check_each-clause-refused c =
    let begun = c.in-Ok.list in
    let e = c.in-Err-check_each.refusal in
    let (rest, (ms, reads, wrong), left) = c.in-Err-check_each.ensures.stopped in
    begun-fault (form_of c.args.kind) c.args.bytes.now begun.1.now begun.0 c.in-Ok.ensures.ok e (ms, rest, reads, wrong)

pub returns-in-Err-check_each-clause-place : goal.returns-in-Err-check_each-clause-place
returns-in-Err-check_each-clause-place c =
    let begun = c.in-Ok.list in
    let bytes = c.args.bytes.now in
    let (rest, stops, left) = c.in-Err-check_each.ensures.stopped in
    let short = behind_short c.args.kind bytes begun.0 begun.1.now c.in-Ok.ensures.ok in
    let offset : ℕ = length bytes - c.check_each.new.left in
    let place : length bytes ≡ offset + length rest = omega (arith, left, c.in-Err-check_each.ensures.within, short) in
    inr (record { nest = begun.0; behind = begun.1.now; begins = c.in-Ok.ensures.ok; rest = rest; place = place; stops = stops })
