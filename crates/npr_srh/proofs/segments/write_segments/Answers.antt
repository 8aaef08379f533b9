use Rattle.std.proofs.Common.{rules, arith, ◌++◌, ◌∷◌, [], Ok, refl, sym, ap, ◌∙◌, append_assoc, List, ℕ}
use Rattle.std.proofs.Output.{displays_on_IsOk_append, displays_on_ok_of_eq, displays_on_ok_weaken}
use Rattle.std.specs.Iterator.Adapters.{rev_source}
use Rattle.std.specs.Slice.Iter.{iter_rest}
use Rattle.npr_srh.specs.Segments.{segments_text}
use Rattle.npr_srh.proofs.SegmentTexts.{segments_text-more}
use Rattle.npr_srh.proofs.segments.write_segments.Goals as goal

pub loop-segment-preserved : goal.loop-segment-preserved
loop-segment-preserved g c =
    let (done, some, is, written) = c.loop-segment.invariant in
    let took = g.W.Write.write_str_gives in
    let start = c.args.f.now in
    let after = c.write.new.self in
    let result = c.write.result in
    let segment = c.in-Some.segment.now in
    let next = displays_on_IsOk_append took start c.loop-segment.f after (Ok tt) result (segments_text done) _ (λ ok. refl) written c.write.ensures.writes in
    let all = displays_on_ok_weaken took start after start after result (Ok tt) _ (λ bs wrote plain ok. wrote plain (search rules)) next in
    let steps = c.in-Some.ensures.steps in
    let before = iter_rest (rev_source c.next.new.self) in
    let rest = sym (append_assoc before (segment ∷ []) done) ∙ ap (λ (l : List (List ℕ)). l ++ done) (sym steps) ∙ is in
    (segment ∷ done, omega arith, rest, displays_on_ok_of_eq took start after (Ok tt) _ _ (segments_text-more done segment some) all)
