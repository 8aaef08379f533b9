use Rattle.std.proofs.Common.{sym, ap, subst, ◌∙◌}
use Rattle.npr_base.specs.Counts.{Counts}
use Rattle.npr_link.specs.Governing.{State, is_complete, forms_of, noted, Searching, search_ends, search_stops, both_found, searched_past}
use Rattle.npr_link.proofs.info_list.search.Goals as goal

pub returns-in_default-step : goal.returns-in_default-step
returns-in_default-step c =
    let step = rw c.in_default-step.is at c.in-Some.ensures.step in
    let look = rw c.in_default-step.is at c.in-Some.ensures.counted in
    c.loop-step.invariant.whole c.forms_of.result c.next_counted.new.looks
    (search_stops c.in_default-step.field-0 step.0 step.1 c.forms_of.ensures look)

pub returns-then-is_complete : goal.returns-then-is_complete
returns-then-is_complete c =
    let front = rw c.in-Ok.is at c.in-Some.ensures.step in
    let look = rw c.in-Ok.is at c.in-Some.ensures.counted in
    let whole = ap is_complete (sym c.noted_with-found.ensures) ∙ sym c.is_complete.ensures ∙ c.if-is_complete.true in
    c.loop-step.invariant.whole c.forms_of-then-is_complete.result c.next_counted.new.looks
    (both_found c.in-Ok.item c.next_counted.new.self front whole (c.forms_of-then-is_complete.ensures ∙ ap forms_of c.noted_with-found.ensures) look)

pub loop-step-preserved : goal.loop-step-preserved
loop-step-preserved c =
    let front = rw c.in-Ok.is at c.in-Some.ensures.step in
    let look = rw c.in-Ok.is at c.in-Some.ensures.counted in
    let rest = c.next_counted.new.self in
    let wanting = sym c.is_complete.ensures ∙ c.if-is_complete.false in
    record {
      wanting = wanting;
      whole =
          λ d new p.
          let there = subst (λ (s : State). Searching s rest d c.next_counted.new.looks new) c.noted_with-found.ensures p in
          c.loop-step.invariant.whole d new
          (searched_past c.in-Ok.item rest front (ap is_complete (sym c.noted_with-found.ensures) ∙ wanting)
          (subst (λ (k : Counts). Searching (noted c.loop-step.found c.in-Ok.item) rest d k new) look there));
    }

pub returns : goal.returns
returns c =
    c.loop-step.invariant.whole c.forms_of-2.result c.next_counted.new.looks
    (search_ends c.in_default.ensures.step.0 c.forms_of-2.ensures c.in_default.ensures.counted)
