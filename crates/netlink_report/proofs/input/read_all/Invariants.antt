use Rattle.std.proofs.Common.{◌≡◌, ◌≤◌, length}
use Rattle.std.specs.Io.KnownBytes.{Consumes}
use Rattle.netlink_report.proofs.input.read_all.Given as goal

-- what was read is gone from the reader, each turn has read something, and no read has failed
abbrev pub invariant-loop : goal.invariant-loop
invariant-loop g l = record {
  taken : Consumes (g.R.Read.remaining l.initial.reader.inner) (g.R.Read.remaining l.reader.inner) l.bytes.items;
  turns : l.counter ≤ length l.bytes.items;
  kept : l.reader.failures ≡ l.initial.reader.failures;
}
