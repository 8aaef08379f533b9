use Rattle.std.proofs.Common.{◌≡◌, ◌≤◌, ◌+◌, length, arith}
use Rattle.npr_base.specs.Framing.{encoding}
use Rattle.npr_base.specs.lemmas.List.{length-encoding}
use Rattle.npr_base.proofs.Writing.{room_behind, wrote_more}
use Rattle.npr_link_devices.specs.Targets.{target}
use Rattle.npr_link_devices.proofs.AddressSteps.{bytes_to, bytes-next, bytes-below}
use Rattle.npr_link_devices.proofs.addresses.write_addresses.Goals as goal

pub write_address-at-requires : goal.write_address-at-requires
write_address-at-requires g c =
    let octets = g.A.Address.octets in
    let all = c.args.addresses.now in
    let i = c.loop-address.address-index in
    let x = c.address-item.result in
    let one = target i (octets x) in
    let next = bytes-next octets all i x c.loop-address-test.true c.address-item.is in
    let whole : length (bytes_to octets all (i + 1)) ≤ length c.args.out.now = omega (arith, bytes-below octets all (i + 1), c.requires) in
    let room =
    room_behind c.args.out.now c.loop-address.out c.loop-address.at (bytes_to octets all i) (bytes_to octets all (i + 1)) (encoding one)
    c.loop-address.invariant.len next whole c.loop-address.auto.out in
    omega (arith, room, length-encoding one)

pub loop-address-preserved : goal.loop-address-preserved
loop-address-preserved g c =
    let octets = g.A.Address.octets in
    let all = c.args.addresses.now in
    let i = c.loop-address.address-index in
    let x = c.address-item.result in
    let past = c.loop-address.invariant in
    let one = target i (octets x) in
    let next = bytes-next octets all i x c.loop-address-test.true c.address-item.is in
    let whole : length (bytes_to octets all (i + 1)) ≤ length c.args.out.now = omega (arith, bytes-below octets all (i + 1), c.requires) in
    let size : c.write_address-at.result ≡ length (encoding one) = omega (arith, c.write_address-at.ensures.len, length-encoding one) in
    let after = rw past.number at c.write_address-at.ensures.after in
    let wrote =
    wrote_more c.args.out.now c.loop-address.out c.loop-address.at (bytes_to octets all i) (bytes_to octets all (i + 1)) (encoding one)
    past.len next whole past.after c.write_address-at.new.out c.write_address-at.result size after in
    record {
      len = wrote.len;
      number = omega (arith, past.number);
      after = wrote.after;
    }
