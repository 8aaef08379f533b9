use Rattle.std.proofs.Common.{take}
use Rattle.hex_text.specs.State.{IsState}
use Rattle.hex_text.proofs.Texts.{Reads}
use Rattle.hex_text.proofs.reading.bytes_of.Given as goal

-- what was read so far
abbrev pub invariant-loop-place : goal.invariant-loop-place
invariant-loop-place l = record {
  reads : Reads (take l.place l.text) l.state l.bytes.items;
  state : IsState l.state;
}
