use Rattle.std.proofs.Common.{rules}
use Rattle.netlink_report.proofs.KnownBytes.{Appends-take}
use Rattle.netlink_report.proofs.output.write_text.Goals as goal

pub loop-done-preserved : goal.loop-done-preserved
loop-done-preserved g c = record {
  within = search rules;
  written = Appends-take _ _ _ c.args.text.now c.loop-done.done c.in-Ok.count c.loop-done.invariant.written c.in-Ok.ensures.bytes;
  kept = search rules;
}
