use Rattle.std.proofs.Common.{length, take, ◌-◌, ◌≡◌, ◌≤◌}
use Rattle.std.specs.Io.KnownBytes.{Appends}
use Rattle.netlink_report.proofs.output.write_text.Given as goal

-- the text's first bytes are written, and no write has failed
abbrev pub invariant-loop-done : goal.invariant-loop-done
invariant-loop-done g l = record {
  within : l.done ≤ length l.text;
  written : Appends (g.W.Write.contents l.initial.writer.inner) (g.W.Write.contents l.writer.inner) (take l.done l.text);
  kept : l.writer.failures ≡ l.initial.writer.failures;
}

abbrev pub decreases-loop-done : goal.decreases-loop-done
decreases-loop-done g l = length l.text - l.done
