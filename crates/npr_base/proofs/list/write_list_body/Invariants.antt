use Rattle.std.proofs.Common.{◌≡◌, length, take, drop, None}
use Rattle.npr_base.specs.Framing.{Writes}
use Rattle.npr_base.specs.Lists.{first_unfit, encodings}
use Rattle.npr_base.proofs.list.write_list_body.Given as goal
use Rattle.npr_base.specs.Family.{shaped_item, shaped_unfit}

abbrev pub invariant-loop-x : goal.invariant-loop-x
invariant-loop-x g l = record {
  fits : first_unfit (shaped_unfit g.A.Nla.shape) (drop l.x-index l.list) ≡ None;
  len : l.at ≡ length (encodings (shaped_item g.A.Nla.shape) (take l.x-index l.list));
  after : Writes l.fn.out l.out (encodings (shaped_item g.A.Nla.shape) (take l.x-index l.list));
}
