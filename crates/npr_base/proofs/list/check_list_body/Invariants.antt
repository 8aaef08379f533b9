use Rattle.std.proofs.Common.{◌≡◌, ◌≤◌, ◌*◌, ◌^◌, ◌-◌, length, take, drop}
use Rattle.npr_base.specs.Lists.{first_unfit, encodings}
use Rattle.npr_base.proofs.list.check_list_body.Given as goal
use Rattle.npr_base.specs.Family.{shaped_item, shaped_unfit}

abbrev pub invariant-loop-x : goal.invariant-loop-x
invariant-loop-x g l = record {
  fits : first_unfit (shaped_unfit g.A.Nla.shape) l.list ≡ first_unfit (shaped_unfit g.A.Nla.shape) (drop l.x-index l.list);
  sum : l.total ≡ length (encodings (shaped_item g.A.Nla.shape) (take l.x-index l.list));
  small : l.total ≤ l.x-index * (2 ^ 64 - 1);
}
