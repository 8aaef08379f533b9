use Rattle.std.proofs.Common.{◌≡◌, ◌++◌, ℕ, length, refl, sym, subst, arith, append-nil}
use Rattle.std.specs.Prelude.{option_to_list}
use Rattle.hex_text.specs.HexText.{IsBadAt}
use Rattle.hex_text.specs.State.{IsState}
use Rattle.hex_text.proofs.Texts.{bad-here, bad-end, one_reading, reads-next, text-ends, text-some}
use Rattle.hex_text.proofs.reading.bytes_of.Goals as goal
use Rattle.hex_text.proofs.reading.bytes_of.Goals.{in-Some-ended+in_ok-push, in_default-ended}

pub returns-in_default-clause-one_reading : goal.returns-in_default-clause-one_reading
returns-in_default-clause-one_reading c = one_reading c.args.text.now

pub returns-in_err-push-clause-one_reading : goal.returns-in_err-push-clause-one_reading
returns-in_err-push-clause-one_reading c = one_reading c.args.text.now

pub returns-in-Half-clause-one_reading : goal.returns-in-Half-clause-one_reading
returns-in-Half-clause-one_reading c = one_reading c.args.text.now

pub returns-in_default-clause-bad : goal.returns-in_default-clause-bad
returns-in_default-clause-bad c = λ place same.
    let is : c.loop-place.place ≡ place = cc in
    let within = c.loop-place-test.true in
    let stops = c.in_default.ensures.none refl in
    subst (λ (n : ℕ). IsBadAt c.args.text.now n) is
    (bad-here c.args.text.now c.loop-place.bytes.items c.loop-place.state c.loop-place.place (omega (arith, within)) c.loop-place.invariant.reads stops)

pub loop-place-preserved : goal.loop-place-preserved
loop-place-preserved c =
    let loop = c.loop-place in
    let within = c.loop-place-test.true in
    let leads = c.in-Some.ensures.some in
    let reads = reads-next c.args.text.now loop.bytes.items c.match-ended.bytes.items loop.state c.in-Some.next c.match-ended.state loop.place c.in-Some.ended
    (omega (arith, within)) loop.invariant.reads leads in
    elim c.match-ended.branch [
      | in-Some-ended+in_ok-push w ↦
          let all : c.match-ended.bytes.items ≡ loop.bytes.items ++ option_to_list c.in-Some.ended = rw (w.bytes-is, w.in-Some-ended.is) w.in_ok-push.ensures.items in
          record { reads = reads w.state-is all; state = subst IsState (sym w.state-is) c.in-Some.ensures.state }
      | in_default-ended w ↦
          let all : c.match-ended.bytes.items ≡ loop.bytes.items ++ option_to_list c.in-Some.ended = rw (w.bytes-is, w.in_default-ended.is) (sym (append-nil loop.bytes.items)) in
          record { reads = reads w.state-is all; state = subst IsState (sym w.state-is) c.in-Some.ensures.state }
    ]

pub returns-in-Half-clause-bad : goal.returns-in-Half-clause-bad
returns-in-Half-clause-bad c = λ place same.
    let is : length c.args.text.now ≡ place = cc in
    let end = c.loop-place-test.false in
    subst (λ (n : ℕ). IsBadAt c.args.text.now n) is
    (bad-end c.args.text.now c.loop-place.bytes.items c.loop-place.state c.loop-place.place (omega (arith, end)) c.loop-place.invariant.reads c.in-Half.field-0 c.in-Half.is)

pub returns-in-Between : goal.returns-in-Between
returns-in-Between c =
    let loop = c.loop-place in
    let text = c.args.text.now in
    let is = text-ends text loop.bytes.items loop.state loop.place (omega (arith, c.loop-place-test.false)) loop.invariant.reads c.in-Between.is in
    record { ok = is; one_reading = one_reading text; bad = tt; memory = λ e. cc; some = text-some text loop.bytes.items is }
