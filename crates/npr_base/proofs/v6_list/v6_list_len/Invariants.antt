use Rattle.std.proofs.Common.{◌≡◌, ◌*◌, length, take}
use Rattle.std.specs.List.{concat}
use Rattle.npr_base.specs.Lists.{AllOf}
use Rattle.npr_base.proofs.v6_list.v6_list_len.Given as goal

abbrev pub invariant-loop-address : goal.invariant-loop-address
invariant-loop-address l = record {
  offset : l.total ≡ 16 * l.address-index;
  len : l.total ≡ length (concat (take l.address-index l.addresses));
  each : AllOf (λ a. length a ≡ 16) (take l.address-index l.addresses);
}
