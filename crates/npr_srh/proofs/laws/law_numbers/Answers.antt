use Rattle.std.proofs.Common.{refl}
use Rattle.npr_srh.specs.Seg6Mode.{seg6_modes}
use Rattle.npr_srh.specs.Seg6LocalAction.{actions}
use Rattle.npr_srh.specs.Ioam6Mode.{ioam6_modes}
use Rattle.npr_srh.proofs.laws.law_numbers.Goals as goal

pub returns : goal.returns
returns c = record {
  seg6_mode = seg6_modes.back;
  action = actions.back;
  action_rows = refl;
  ioam6_mode = ioam6_modes.back;
}
