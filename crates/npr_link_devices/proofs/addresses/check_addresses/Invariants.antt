use Rattle.std.proofs.Common.{◌≡◌, ◌≤◌, ◌*◌, ◌^◌, ◌-◌, length}
use Rattle.npr_link_devices.proofs.AddressSteps.{bytes_to}
use Rattle.npr_link_devices.proofs.addresses.check_addresses.Given as goal

abbrev pub invariant-loop-address : goal.invariant-loop-address
invariant-loop-address g l = record {
  sum : l.total ≡ length (bytes_to g.A.Address.octets l.addresses l.address-index);
  small : l.total ≤ l.address-index * (2 ^ 64 - 1);
}
