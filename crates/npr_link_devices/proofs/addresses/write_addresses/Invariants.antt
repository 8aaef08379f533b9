use Rattle.std.proofs.Common.{◌≡◌, ◌%◌, ◌^◌, length}
use Rattle.npr_base.specs.Framing.{Writes}
use Rattle.npr_link_devices.proofs.AddressSteps.{bytes_to}
use Rattle.npr_link_devices.proofs.addresses.write_addresses.Given as goal

abbrev pub invariant-loop-address : goal.invariant-loop-address
invariant-loop-address g l = record {
  len : l.at ≡ length (bytes_to g.A.Address.octets l.addresses l.address-index);
  number : l.number ≡ l.address-index % 2 ^ 16;
  after : Writes l.fn.out l.out (bytes_to g.A.Address.octets l.addresses l.address-index);
}
