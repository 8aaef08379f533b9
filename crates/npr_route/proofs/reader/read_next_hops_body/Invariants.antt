use Rattle.std.proofs.Common.{length, List, ℕ}
use Rattle.npr_route.specs.Attribute.{HopHead, HopFront}
use Rattle.npr_route.specs.Reader.{Tied, account, unread, weight, Added}
use Rattle.npr_route.specs.ReaderLooks.{TiedAt}
use Rattle.npr_route.proofs.reader.read_next_hops_body.Given as goal

abbrev pub invariant-loop-reader : goal.invariant-loop-reader
invariant-loop-reader l = record {
  tied : Tied l.fn.context l.bytes l.reader;
  follows : TiedAt l.fn.context l.bytes l.fn.looks l.reader l.looks;
  looks : Added l.fn.looks l.looks (unread (length l.bytes)) (account l.reader);
  begun : (h : HopHead) × (inside : List ℕ) × (rest : List ℕ) × HopFront l.bytes h inside rest;
}

abbrev pub decreases-loop-reader : goal.decreases-loop-reader
decreases-loop-reader l = weight l.reader
