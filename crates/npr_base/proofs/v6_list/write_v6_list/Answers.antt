use Rattle.std.specs.List.{concat}
use Rattle.std.proofs.Common.{◌≡◌, [], length, ap, arith, length-append}
use Rattle.std.proofs.lemmas.List.{append-nil}
use Rattle.std.proofs.lemmas.List.Folds.{concat-append}
use Rattle.npr_base.proofs.Writing.{room_for, wrote_next}
use Rattle.npr_base.proofs.v6_list.write_v6_list.Goals as goal

pub write_array-at-requires : goal.write_array-at-requires
write_array-at-requires c =
    let i = c.loop-address.address-index in
    let x = c.address-item.result in
    let all = c.args.addresses.now in
    let room = room_for concat concat-append all i x c.loop-address-test.true c.address-item.is c.args.out.now c.requires c.loop-address.out c.loop-address.at c.loop-address.invariant.len c.loop-address.auto.out in
    omega (arith, room, length-append x [], c.octets.type_inv, ap length c.octets.ensures)

pub loop-address-preserved : goal.loop-address-preserved
loop-address-preserved c =
    let i = c.loop-address.address-index in
    let x = c.address-item.result in
    let all = c.args.addresses.now in
    let past = c.loop-address.invariant in
    let took : c.write_array-at.result ≡ length x = omega (arith, c.write_array-at.ensures.len, c.octets.type_inv, ap length c.octets.ensures) in
    let wrote =
    wrote_next concat concat-append all i x c.loop-address-test.true c.address-item.is c.args.out.now c.requires c.loop-address.out c.loop-address.at past.len
    past.after c.write_array-at.new.out x c.write_array-at.result (append-nil x) took (rw c.octets.ensures at c.write_array-at.ensures.after) in
    record { len = wrote.len; after = wrote.after }
