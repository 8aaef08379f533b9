use Rattle.std.proofs.Common.{take, ◌≤◌, ◌+◌}
use Rattle.hex_text.specs.Place.{IsPlace}
use Rattle.hex_text.proofs.place.Place.behind.Given as goal

-- what was passed ends there
abbrev pub invariant-loop-byte : goal.invariant-loop-byte
invariant-loop-byte l = record {
  there : IsPlace (take l.byte-index l.front) l.line l.column;
  lines : l.line ≤ l.byte-index + 1;
  bytes : l.column ≤ l.byte-index + 1;
}
