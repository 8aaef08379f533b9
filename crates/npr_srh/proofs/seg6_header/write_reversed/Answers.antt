use Rattle.std.specs.List.{concat}
use Rattle.std.proofs.Common.{◌≡◌, ◌<◌, [], get_or, length, reverse, ap, sym, ◌∙◌, arith, length-append}
use Rattle.std.proofs.lemmas.List.{append-nil, get_or-reverse, length-reverse}
use Rattle.std.proofs.lemmas.List.Folds.{concat-append}
use Rattle.npr_base.proofs.Writing.{room_for, wrote_next}
use Rattle.npr_srh.proofs.seg6_header.write_reversed.Goals as goal

pub write_array-at-requires : goal.write_array-at-requires
write_array-at-requires c =
    let i = c.loop-i.i in
    let x = c.index-segments-count.result in
    let all = reverse c.args.segments.now in
    let lt : i < length all = omega (arith, c.loop-i-test.true, length-reverse c.args.segments.now) in
    let read : x ≡ get_or all i x = c.index-segments-count.is ∙ sym (get_or-reverse c.args.segments.now i x c.loop-i-test.true) in
    let room = room_for concat concat-append all i x lt read c.args.out.now c.requires c.loop-i.out c.loop-i.at c.loop-i.invariant.len c.loop-i.auto.out in
    omega (arith, room, length-append x [], c.octets.type_inv, ap length c.octets.ensures)

pub loop-i-preserved : goal.loop-i-preserved
loop-i-preserved c =
    let i = c.loop-i.i in
    let x = c.index-segments-count.result in
    let all = reverse c.args.segments.now in
    let past = c.loop-i.invariant in
    let lt : i < length all = omega (arith, c.loop-i-test.true, length-reverse c.args.segments.now) in
    let read : x ≡ get_or all i x = c.index-segments-count.is ∙ sym (get_or-reverse c.args.segments.now i x c.loop-i-test.true) in
    let took : c.write_array-at.result ≡ length x = omega (arith, c.write_array-at.ensures.len, c.octets.type_inv, ap length c.octets.ensures) in
    let wrote =
    wrote_next concat concat-append all i x lt read c.args.out.now c.requires c.loop-i.out c.loop-i.at past.len past.after c.write_array-at.new.out x
    c.write_array-at.result (append-nil x) took (rw c.octets.ensures at c.write_array-at.ensures.after) in
    record { len = wrote.len; after = wrote.after }
