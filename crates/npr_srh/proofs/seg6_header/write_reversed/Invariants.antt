use Rattle.std.proofs.Common.{◌≡◌, length, take, reverse}
use Rattle.std.specs.List.{concat}
use Rattle.npr_base.specs.Framing.{Writes}
use Rattle.npr_srh.proofs.seg6_header.write_reversed.Given as goal

abbrev pub invariant-loop-i : goal.invariant-loop-i
invariant-loop-i l = record {
  len : l.at ≡ length (concat (take l.i (reverse l.segments)));
  after : Writes l.fn.out l.out (concat (take l.i (reverse l.segments)));
}
