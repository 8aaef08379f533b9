use Rattle.std.proofs.Common.{◌≡◌, ◌<◌, ◌++◌, List, ℕ, length, Ok}
use Rattle.std.specs.Fmt.{DisplaysOnOk}
use Rattle.std.specs.Iterator.Adapters.{rev_source}
use Rattle.std.specs.Slice.Iter.{iter_rest}
use Rattle.npr_srh.specs.Segments.{segments_text}
use Rattle.npr_srh.proofs.segments.write_segments.Given as goal

abbrev pub invariant-loop-segment : goal.invariant-loop-segment
invariant-loop-segment g l =
    (done : List (List ℕ)) × (0 < length done) × (iter_rest (rev_source l.segment-iterator) ++ done ≡ l.segments)
    × DisplaysOnOk g.W.Write.write_str_gives l.fn.f (Ok tt) (segments_text done) l.f
