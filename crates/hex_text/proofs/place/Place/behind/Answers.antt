use Rattle.std.proofs.Common.{arith}
use Rattle.hex_text.proofs.Places.{next-line, next-column}
use Rattle.hex_text.proofs.place.Place.behind.Goals as goal
use Rattle.hex_text.proofs.place.Place.behind.Goals.{then-byte-eq10, else-byte-eq10}

pub loop-byte-preserved : goal.loop-byte-preserved
loop-byte-preserved c =
    let loop = c.loop-byte in
    let front = c.args.front.now in
    let past = loop.invariant in
    elim c.if-byte-eq10.branch [
      | then-byte-eq10 w ↦
          let there = next-line front loop.byte-index loop.line loop.column (omega (arith, c.loop-byte-test.true)) past.there (omega (arith, w.if-byte-eq10.true)) in
          record { there = rw (w.line-is, w.column-is) there; lines = omega (arith, w.line-is, past.lines); bytes = omega (arith, w.column-is) }
      | else-byte-eq10 w ↦
          let there = next-column front loop.byte-index loop.line loop.column (omega (arith, c.loop-byte-test.true)) past.there w.if-byte-eq10.false in
          record { there = rw (w.line-is, w.column-is) there; lines = omega (arith, w.line-is, past.lines); bytes = omega (arith, w.column-is, past.bytes) }
    ]
