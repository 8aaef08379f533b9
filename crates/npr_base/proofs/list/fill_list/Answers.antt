use Rattle.std.proofs.Common.{◌≡◌, ◌<◌, ◌≤◌, ◌+◌, ◌-◌, ◌∷◌, [], ◌++◌, ℕ, List, map, length, ap, arith, subst, ◌∙◌}
use Rattle.std.proofs.lemmas.List.{map_push, length_push}
use Rattle.std.proofs.lemmas.Result.{err_from_is_err_and}
use Rattle.npr_base.specs.Counts.{Counts, AddsAtMost, hit, miss}
use Rattle.npr_base.specs.Framing.{Front, Fault}
use Rattle.npr_base.specs.Looks.{list_ends, none_stands, faulty_stands, passed}
use Rattle.npr_base.specs.Lists.{ReadsTo}
use Rattle.npr_base.specs.lemmas.Front.{Front-takes}
use Rattle.npr_base.specs.lemmas.LookBounds.{list-walked, list-saw}
use Rattle.npr_base.proofs.Lists.{begins_so, ReadsTo-more}
use Rattle.npr_base.proofs.Looking.{SoFar-more, Walked-past, AddsAtMost-none}
use Rattle.npr_base.proofs.list.fill_list.Goals as goal

pub returns-in_err-read_onto-clause-memory : goal.returns-in_err-read_onto-clause-memory
returns-in_err-read_onto-clause-memory g c = λ h.
    let f : Front c.loop-next.walk c.in_ok-item.item c.next_counted.new.self = rw c.in_ok-item.was at c.in-Some.ensures.step in
    begins_so (g.A.Attribute.family.reading c.args.context).Reads c.args.bytes.now (map g.A.Attribute.family.meaning c.loop-next.found.items) c.loop-next.walk c.in_ok-item.item c.next_counted.new.self c.loop-next.invariant.read f

pub returns-in_err-make_room-clause-memory : goal.returns-in_err-make_room-clause-memory
returns-in_err-make_room-clause-memory g c = λ h.
    let f : Front c.loop-next.walk c.in_ok-item.item c.next_counted.new.self = rw c.in_ok-item.was at c.in-Some.ensures.step in
    begins_so (g.A.Attribute.family.reading c.args.context).Reads c.args.bytes.now (map g.A.Attribute.family.meaning c.loop-next.found.items) c.loop-next.walk c.in_ok-item.item c.next_counted.new.self c.loop-next.invariant.read f

-- ---- the looks

pub returns-clause-exact : goal.returns-clause-exact
returns-clause-exact g c = λ answered. c.loop-next.invariant.exact c.next_counted.new.looks (list_ends c.in_default.ensures.step.0 c.in_default.ensures.counted)

pub returns-in_err-item-clause-exact : goal.returns-in_err-item-clause-exact
returns-in_err-item-clause-exact g c = λ answered.
    let step : (0 < length c.loop-next.walk) × Fault c.loop-next.walk c.in_err-item.field-0.0 × (c.next_counted.new.self ≡ []) = rw c.in_err-item.was at c.in-Some.ensures.step in
    let look : c.next_counted.new.looks ≡ miss c.loop-next.looks = rw c.in_err-item.was at c.in-Some.ensures.counted in
    c.loop-next.invariant.exact c.next_counted.new.looks (none_stands c.in_err-item.field-0.0 step.0 step.1 look)

pub returns-in_err-read_onto-clause-exact : goal.returns-in_err-read_onto-clause-exact
returns-in_err-read_onto-clause-exact g c =
    let p = err_from_is_err_and c.from_residual-in_err-read_onto.result c.from_residual-in_err-read_onto.ensures.1 in
    let family = g.A.Attribute.family.reading c.args.context in
    let item = c.in_ok-item.item in
    let after = c.read_onto.new.looks in
    let f : Front c.loop-next.walk item c.next_counted.new.self = rw c.in_ok-item.was at c.in-Some.ensures.step in
    let look : c.next_counted.new.looks ≡ hit c.loop-next.looks = rw c.in_ok-item.was at c.in-Some.ensures.counted in
    rw (p.1, p.2) (λ other.
    c.loop-next.invariant.exact after
    (faulty_stands item c.next_counted.new.self _ f (c.in_err-read_onto.ensures.refused other) (subst (λ (k : Counts). family.looks.Takes item k after) look (c.in_err-read_onto.ensures.exact other))))

pub returns-clause-counted : goal.returns-clause-counted
returns-clause-counted g c =
    let f = g.A.Attribute.family.reading c.args.context in
    let xs = map g.A.Attribute.family.meaning c.loop-next.found.items in
    let reads = subst (λ (rest : List ℕ). ReadsTo f.Reads c.args.bytes.now xs rest) c.in_default.ensures.step.0 c.loop-next.invariant.read in
    list-saw f c.args.bytes.now xs c.args.looks.now c.next_counted.new.looks reads (returns-clause-exact g c tt)

-- ---- what was walked

pub returns-clause-walked : goal.returns-clause-walked
returns-clause-walked g c =
    list-walked (g.A.Attribute.family.reading c.args.context) c.args.bytes.now c.args.looks.now c.next_counted.new.looks (returns-clause-exact g c tt)

pub returns-in_err-item-clause-walked : goal.returns-in_err-item-clause-walked
returns-in_err-item-clause-walked g c =
    let step : (0 < length c.loop-next.walk) × Fault c.loop-next.walk c.in_err-item.field-0.0 × (c.next_counted.new.self ≡ []) = rw c.in_err-item.was at c.in-Some.ensures.step in
    let look : c.next_counted.new.looks ≡ miss c.loop-next.looks = rw c.in_err-item.was at c.in-Some.ensures.counted in
    let exact = c.loop-next.invariant.exact c.next_counted.new.looks (none_stands c.in_err-item.field-0.0 step.0 step.1 look) in
    list-walked (g.A.Attribute.family.reading c.args.context) c.args.bytes.now c.args.looks.now c.next_counted.new.looks exact

pub returns-in_err-make_room-clause-walked : goal.returns-in_err-make_room-clause-walked
returns-in_err-make_room-clause-walked g c =
    let family = g.A.Attribute.family in
    let past = c.loop-next.invariant in
    let item = c.in_ok-item.item in
    let rest = c.next_counted.new.self in
    let done = map family.meaning c.loop-next.found.items in
    let f : Front c.loop-next.walk item rest = rw c.in_ok-item.was at c.in-Some.ensures.step in
    let look : c.next_counted.new.looks ≡ hit c.loop-next.looks = rw c.in_ok-item.was at c.in-Some.ensures.counted in
    let w = Walked-past (family.reading c.args.context).Reads c.args.bytes.now done c.loop-next.walk c.args.looks.now c.loop-next.looks
    item rest (hit c.loop-next.looks) past.read past.looks f (AddsAtMost-none (hit c.loop-next.looks) (length item.value)) past.left in
    rw look w

pub returns-in_err-read_onto-clause-walked : goal.returns-in_err-read_onto-clause-walked
returns-in_err-read_onto-clause-walked g c =
    let family = g.A.Attribute.family in
    let past = c.loop-next.invariant in
    let item = c.in_ok-item.item in
    let rest = c.next_counted.new.self in
    let after = c.read_onto.new.looks in
    let done = map family.meaning c.loop-next.found.items in
    let f : Front c.loop-next.walk item rest = rw c.in_ok-item.was at c.in-Some.ensures.step in
    let look : c.next_counted.new.looks ≡ hit c.loop-next.looks = rw c.in_ok-item.was at c.in-Some.ensures.counted in
    let adds = subst (λ (k : Counts). AddsAtMost k after (length item.value)) look c.read_onto.ensures.bounded in
    Walked-past (family.reading c.args.context).Reads c.args.bytes.now done c.loop-next.walk c.args.looks.now c.loop-next.looks
    item rest after past.read past.looks f adds past.left

pub loop-next-preserved : goal.loop-next-preserved
loop-next-preserved g c =
    let family = g.A.Attribute.family in
    let (a, pushed, read) = c.in_ok-read_onto.ensures.ok in
    let item = c.in_ok-item.item in
    let past = c.loop-next.invariant in
    let bytes = c.args.bytes.now in
    let rest = c.next_counted.new.self in
    let done = map family.meaning c.loop-next.found.items in
    let f : Front c.loop-next.walk item rest = rw c.in_ok-item.was at c.in-Some.ensures.step in
    let took = Front-takes c.loop-next.walk item rest f in
    let look : c.next_counted.new.looks ≡ hit c.loop-next.looks = rw c.in_ok-item.was at c.in-Some.ensures.counted in
    let e : map family.meaning c.read_onto.new.list.items ≡ done ++ family.meaning a ∷ [] = rw (pushed, c.make_room.ensures.items) (map_push _ c.loop-next.found.items a) in
    let after = c.read_onto.new.looks in
    let adds = subst (λ (k : Counts). AddsAtMost k after (length item.value)) look c.read_onto.ensures.bounded in
    let takes = c.in_ok-read_onto.ensures.exact tt in
    let failed = ((family.reading c.args.context).saw item (family.meaning a) c.next_counted.new.looks after read takes).failed in
    let fewer : (length bytes - length c.loop-next.walk) + (4 + length item.value) ≤ length bytes - length rest = omega (arith, took, past.left) in
    let more = SoFar-more c.args.looks.now c.loop-next.looks after (length bytes - length c.loop-next.walk) (length done) (length item.value) (length bytes - length rest) past.looks adds (failed ∙ ap (λ (k : Counts). k.failed) look) fewer in
    record {
      exact = λ end later. past.exact end (passed item rest (family.meaning a) after f read (subst (λ (k : Counts). (family.reading c.args.context).looks.Takes item k after) look takes) later);
      read = rw e (ReadsTo-more (family.reading c.args.context).Reads bytes done c.loop-next.walk item (family.meaning a) rest past.read f read);
      left = omega (arith, took, past.left);
      looks = rw (e, length_push done (family.meaning a)) more;
    }
