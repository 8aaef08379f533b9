use Rattle.std.proofs.Common.{◌≡◌, false, length}
use Rattle.npr_base.specs.Counts.{Counts}
use Rattle.npr_link.specs.Governing.{Forms, start, is_complete, Searching}
use Rattle.npr_link.proofs.info_list.search.Given as goal

-- not both were found so far, and the search goes on from here
abbrev pub invariant-loop-step : goal.invariant-loop-step
invariant-loop-step l = record {
  wanting : is_complete l.found ≡ false;
  whole : (c : Forms) (new : Counts) → Searching l.found l.walk c l.looks new → Searching start l.bytes c l.fn.looks new;
}

abbrev pub decreases-loop-step : goal.decreases-loop-step
decreases-loop-step l = length l.walk
