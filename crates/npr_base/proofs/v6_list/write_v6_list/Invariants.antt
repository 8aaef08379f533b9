use Rattle.std.proofs.Common.{◌≡◌, length, take}
use Rattle.std.specs.List.{concat}
use Rattle.npr_base.specs.Framing.{Writes}
use Rattle.npr_base.proofs.v6_list.write_v6_list.Given as goal

abbrev pub invariant-loop-address : goal.invariant-loop-address
invariant-loop-address l = record {
  len : l.at ≡ length (concat (take l.address-index l.addresses));
  after : Writes l.fn.out l.out (concat (take l.address-index l.addresses));
}
