use Rattle.std.proofs.Common.{arith}
use Rattle.npr_link_devices.proofs.AddressSteps.{length-next}
use Rattle.npr_link_devices.proofs.addresses.check_addresses.Goals as goal

pub loop-address-preserved : goal.loop-address-preserved
loop-address-preserved g c =
    let more = length-next g.A.Address.octets c.args.addresses.now c.loop-address.address-index c.address-item.result c.loop-address-test.true c.address-item.is in
    record {
      sum = omega (arith, c.loop-address.invariant.sum, c.address_len.ensures, more);
      small = omega (arith, c.loop-address.invariant.small);
    }
