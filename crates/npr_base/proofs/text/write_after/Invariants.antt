use Rattle.std.proofs.Common.{take, Ok}
use Rattle.std.specs.Fmt.{DisplaysOnOk}
use Rattle.npr_base.specs.Text.{each_after}
use Rattle.npr_base.proofs.text.write_after.Given as goal

abbrev pub invariant-loop-part : goal.invariant-loop-part
invariant-loop-part g l = DisplaysOnOk g.W.Write.write_str_gives l.fn.f (Ok tt) (each_after l.fn.separator g.T.Display.output (take l.part-index l.parts)) l.f
